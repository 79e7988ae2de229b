use Rattle.std.specs.Prelude.{◌≡◌, map}
use Rattle.std.specs.List.{range_with_len}
use Rattle.scenario_make.specs.Generator.{generated_flow}
use Rattle.scenario_make.proofs.declared.flows.Given as goal

abbrev pub invariant-loop-at : goal.invariant-loop-at
invariant-loop-at l = l.flows.items ≡ map generated_flow (range_with_len 1 l.at)
