use Rattle.std.proofs.Common.{All, take}
use Rattle.lg_model.specs.Keeping.{IsAsk}
use Rattle.scenario_parts.proofs.fits.asks_fit.Given as goal

abbrev pub invariant-loop-ask : goal.invariant-loop-ask
invariant-loop-ask l = All (IsAsk l.switches l.flows) (take l.ask-index l.asks)
