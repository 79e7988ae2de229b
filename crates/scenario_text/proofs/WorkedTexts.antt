-- The worked texts, computed.
use Rattle.std.proofs.Common.{refl}
use Rattle.flow_key.specs.Words.{is_number, value_to, number_to}
use Rattle.flow_key.specs.KeyText.{number_word, address_of}
use Rattle.scenario_lines.specs.Sections.{keyword_of}
use Rattle.scenario_lines.specs.Fields.{number, word, no_more, fresh_name, known_name, position_of, fresh_host, host_position, fresh_flow, room, room_to}
use Rattle.scenario_lines.specs.Fields.{key_address, key_number, key, hop, path, hash, pick, delays, burst, fate}
use Rattle.scenario_lines.specs.Line.{shape_line, pick_line, host_line, switch_line, flow_line, packet_line, end_line, end_one, ask_line, done_line, line_of}
use Rattle.scenario_text.specs.Text.{lines_say, reading}
use Rattle.scenario_text.specs.Worked.{WorkedTexts}

pub worked : WorkedTexts
unfolding is_number value_to number_to number_word address_of keyword_of number word no_more fresh_name known_name position_of fresh_host host_position
    fresh_flow room room_to key_address key_number key hop path hash pick delays burst fate shape_line pick_line host_line switch_line flow_line packet_line
    end_line end_one ask_line done_line line_of lines_say reading
worked = record {
  the_first = refl;
  nothing = refl;
  one_line = refl;
  one_unfinished_line = refl;
  too_wide = refl;
  other_switch = refl;
  switch_twice = refl;
  no_key = refl;
  part_of_a_key = refl;
}
