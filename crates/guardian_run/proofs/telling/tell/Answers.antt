use Rattle.lg_base.specs.Causes.{Rose}
use Rattle.guardian_run.proofs.Told.{unbegun}
use Rattle.guardian_run.proofs.telling.tell.Goals as goal

pub returns-in-Err-clause-starved : goal.returns-in-Err-clause-starved
returns-in-Err-clause-starved g c =
    let j = c.args.journal in
    unbegun c.args.scenario.now j (Rose (g.D.Disk.faults j.disk) (g.D.Disk.faults j.disk)) c.requires.whole
