use Rattle.std.proofs.Common.{length, All, take}
use Rattle.lg_model.specs.Keeping.{IsStep}
use Rattle.scenario_parts.proofs.fits.steps_fit.Given as goal

abbrev pub invariant-loop-step : goal.invariant-loop-step
invariant-loop-step l = All (IsStep (length l.switches) l.flows) (take l.step-index l.steps)
