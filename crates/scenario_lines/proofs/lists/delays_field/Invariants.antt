use Rattle.std.proofs.Common.{◌≡◌, ◌+◌, ◌<◌, ◌≤◌, All, [], drop, length, map}
use Rattle.std.specs.Fmt.{decimal}
use Rattle.std.specs.Option.{option_copied}
use Rattle.flow_key.specs.Words.{words_left}
use Rattle.scenario_lines.specs.Spelling.{size}
use Rattle.scenario_lines.specs.Fields.{delays}
use Rattle.scenario_lines.proofs.lists.delays_field.Given as goal

abbrev pub invariant-loop : goal.invariant-loop
invariant-loop l = record {
  same : delays (drop l.index l.path) l.delays.items (words_left 32 (option_copied l.left)) ≡ delays l.path [] (words_left 32 (option_copied l.fn.text));
  taken : size (map decimal l.delays.items) + size (words_left 32 (option_copied l.left)) ≡ size (words_left 32 (option_copied l.fn.text));
  count : length l.delays.items ≡ l.index;
  room : length l.path ≤ l.delays.capacity;
  small : All (λ d. d < 4294967296) l.delays.items;
}
