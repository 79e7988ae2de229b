use Rattle.std.proofs.Common.{All, take}
use Rattle.lg_model.specs.Keeping.{IsHost}
use Rattle.scenario_parts.proofs.fits.hosts_fit.Given as goal

abbrev pub invariant-loop-host : goal.invariant-loop-host
invariant-loop-host l = All IsHost (take l.host-index l.hosts)
