use Rattle.std.proofs.Common.{take}
use Rattle.lg_model.specs.Keeping.{AreApart}
use Rattle.scenario_parts.proofs.apart.are_apart.Given as goal

abbrev pub invariant-loop-i : goal.invariant-loop-i
invariant-loop-i l = AreApart (take l.i l.names)
