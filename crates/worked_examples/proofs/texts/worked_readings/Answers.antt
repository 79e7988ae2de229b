use Rattle.std.specs.Fmt.{digits}
use Rattle.flow_key.specs.Words.{is_number, value_to, number_to}
use Rattle.flow_key.specs.KeyText.{number_word, address_of}
use Rattle.scenario_lines.specs.Sections.{keyword_of}
use Rattle.scenario_lines.specs.Fields.{number, word, no_more, fresh_name, known_name, position_of, fresh_host}
use Rattle.scenario_lines.specs.Fields.{host_position, fresh_flow, room, room_to, key_address, key_number, key, hop}
use Rattle.scenario_lines.specs.Fields.{path, hash, pick, delays, burst, fate, fate_ended, letters_word, room_for_all}
use Rattle.scenario_lines.specs.Line.{shape_line, pick_line, host_line, switch_line, flow_line, link_line, packet_line}
use Rattle.scenario_lines.specs.Line.{end_line, end_one, end_all, release_line, unlinked, ask_line, done_line, line_of}
use Rattle.scenario_text.specs.Text.{lines_say, reading, decide, deciding_len}
use Rattle.std.proofs.Common.{refl}
use Rattle.worked_examples.proofs.texts.worked_readings.Goals as goal

pub returns : goal.returns
unfolding digits is_number value_to number_to number_word address_of keyword_of number word no_more fresh_name
    known_name position_of fresh_host host_position fresh_flow room room_to key_address key_number key hop path hash
    pick delays burst fate fate_ended letters_word room_for_all shape_line pick_line host_line switch_line flow_line
    link_line packet_line end_line end_one end_all release_line unlinked ask_line done_line line_of lines_say reading
    decide deciding_len
returns c = record {
  read = refl;
  printed = refl;
  after_done = refl;
  decided = refl;
  decided_early = refl;
  undecided = refl;
  nine_rows = refl;
  no_width = refl;
  other_version = refl;
  same_name = refl;
  no_host = refl;
  late_switch = refl;
}
