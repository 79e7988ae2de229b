use Rattle.std.proofs.Common.{All, take}
use Rattle.lg_model.specs.Ranges.{IsStepRange}
use Rattle.lg_model.proofs.ranges.step_ranges.Given as goal

abbrev pub invariant-loop-step : goal.invariant-loop-step
invariant-loop-step l = All IsStepRange (take l.step-index l.steps)
