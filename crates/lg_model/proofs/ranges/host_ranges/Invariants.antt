use Rattle.std.proofs.Common.{All, take, ◌<◌}
use Rattle.lg_model.proofs.ranges.host_ranges.Given as goal

abbrev pub invariant-loop-host : goal.invariant-loop-host
invariant-loop-host l = All (λ h. h.name < 65536) (take l.host-index l.hosts)
