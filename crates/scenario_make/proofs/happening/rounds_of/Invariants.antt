use Rattle.std.specs.Prelude.{◌≡◌}
use Rattle.std.specs.List.{flat_map, range_with_len}
use Rattle.scenario_make.specs.Generator.{generated_round}
use Rattle.scenario_make.proofs.happening.rounds_of.Given as goal

abbrev pub invariant-loop-round : goal.invariant-loop-round
invariant-loop-round l = l.steps.items ≡ flat_map (generated_round l.rounds) (range_with_len 0 l.round)
