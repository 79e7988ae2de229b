use Rattle.std.proofs.Common.{take}
use Rattle.lg_model.specs.Keeping.{AreApart, names_of}
use Rattle.scenario_parts.proofs.apart.are_flows_apart.Given as goal

abbrev pub invariant-loop-i : goal.invariant-loop-i
invariant-loop-i l = AreApart (names_of (take l.i l.flows))
