use Rattle.std.proofs.Common.{◌≡◌, ◌≤◌, ◌<◌, ◌+◌, [], length, All}
use Rattle.std.specs.Option.{option_copied}
use Rattle.flow_key.specs.Words.{words_left}
use Rattle.scenario_lines.specs.Spelling.{size, path_words}
use Rattle.lg_model.specs.Keeping.{AreApart}
use Rattle.scenario_lines.specs.Fields.{path}
use Rattle.scenario_lines.proofs.lists.path_field.Given as goal

abbrev pub invariant-loop-left : goal.invariant-loop-left
invariant-loop-left l = record {
  same : path l.switches l.hops.items (words_left 32 (option_copied l.left)) ≡ path l.switches [] (words_left 32 (option_copied l.fn.text));
  short : length l.hops.items ≤ 16;
  bound : All (λ at. at < length l.switches) l.hops.items;
  once : AreApart l.hops.items;
  taken : size (path_words l.switches l.hops.items) + size (words_left 32 (option_copied l.left)) ≡ size (words_left 32 (option_copied l.fn.text));
}

abbrev pub decreases-loop-left : goal.decreases-loop-left
decreases-loop-left l = length (words_left 32 (option_copied l.left))
