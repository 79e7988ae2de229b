use Rattle.std.specs.Prelude.{◌≡◌, map}
use Rattle.std.specs.List.{range_with_len}
use Rattle.scenario_make.specs.Generator.{generated_ask}
use Rattle.scenario_make.proofs.happening.asks.Given as goal

abbrev pub invariant-loop-at : goal.invariant-loop-at
invariant-loop-at l = l.asks.items ≡ map generated_ask (range_with_len 1 l.at)
