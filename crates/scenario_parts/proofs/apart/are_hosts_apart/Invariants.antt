use Rattle.std.proofs.Common.{take}
use Rattle.lg_model.specs.Keeping.{AreApart, host_names}
use Rattle.scenario_parts.proofs.apart.are_hosts_apart.Given as goal

abbrev pub invariant-loop-i : goal.invariant-loop-i
invariant-loop-i l = AreApart (host_names (take l.i l.hosts))
