use Rattle.std.specs.Prelude.{◌≡◌, ◌++◌, map}
use Rattle.std.specs.List.{range_with_len}
use Rattle.scenario_make.specs.Generator.{generated_burst}
use Rattle.scenario_make.proofs.happening.put_bursts.Given as goal

abbrev pub invariant-loop-at : goal.invariant-loop-at
invariant-loop-at l = l.steps.items ≡ l.fn.steps.items ++ map (generated_burst l.round) (range_with_len 1 l.at)
