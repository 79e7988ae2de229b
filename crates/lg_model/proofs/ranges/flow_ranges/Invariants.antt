use Rattle.std.proofs.Common.{All, take}
use Rattle.lg_model.specs.Ranges.{IsFlowRange}
use Rattle.lg_model.proofs.ranges.flow_ranges.Given as goal

abbrev pub invariant-loop-flow : goal.invariant-loop-flow
invariant-loop-flow l = All IsFlowRange (take l.flow-index l.flows)
