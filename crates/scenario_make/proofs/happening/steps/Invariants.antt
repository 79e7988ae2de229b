use Rattle.std.specs.Prelude.{◌≡◌, ◌++◌, map}
use Rattle.std.specs.List.{range_with_len}
use Rattle.scenario_make.specs.Generator.{generated_rounds, last_burst}
use Rattle.scenario_make.proofs.happening.steps.Given as goal

abbrev pub invariant-loop-at : goal.invariant-loop-at
invariant-loop-at l = l.steps.items ≡ generated_rounds l.rounds ++ map last_burst (range_with_len 1 l.at)
