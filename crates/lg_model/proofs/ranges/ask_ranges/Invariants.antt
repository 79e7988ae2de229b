use Rattle.std.proofs.Common.{All, take}
use Rattle.lg_model.specs.Ranges.{IsAskRange}
use Rattle.lg_model.proofs.ranges.ask_ranges.Given as goal

abbrev pub invariant-loop-ask : goal.invariant-loop-ask
invariant-loop-ask l = All IsAskRange (take l.ask-index l.asks)
