use Rattle.std.proofs.Common.{All, take}
use Rattle.lg_model.specs.Keeping.{IsFlow}
use Rattle.scenario_parts.proofs.fits.flows_fit.Given as goal

abbrev pub invariant-loop-flow : goal.invariant-loop-flow
invariant-loop-flow l = All (IsFlow l.hosts l.switches) (take l.flow-index l.flows)
