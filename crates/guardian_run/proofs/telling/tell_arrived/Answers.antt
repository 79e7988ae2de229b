use Rattle.std.proofs.Common.{List, sym, subst}
use Rattle.lg_base.specs.Causes.{Rose}
use Rattle.report_text.specs.Faults.{no_memory_line}
use Rattle.host_workers.specs.declared.sender.Sender.{Sender}
use Rattle.guardian_run.specs.declared.status.Status.TheVariants.{NoMemory}
use Rattle.guardian_run.specs.Sending.{AllCanBeMet}
use Rattle.guardian_run.specs.Telling.{Concludes, HasRun}
use Rattle.guardian_run.proofs.Told.{met, concluded, starved, unbegun, ok_so, err_any}
use Rattle.guardian_run.proofs.telling.tell_arrived.Goals as goal

pub conclude-told-requires-clause-met : goal.conclude-told-requires-clause-met
conclude-told-requires-clause-met g c =
    let old = c.args.journal in
    let new = c.in-Ok.journal in
    let e = c.in-Ok.ensures in
    subst (AllCanBeMet new.fault) (sym c.deref.ensures.value)
    (met c.args.scenario.now old new c.in-Ok.senders.items e.goes_on.shape e.sent
    (Rose (g.D.Disk.faults old.disk) (g.D.Disk.faults new.disk)) e.goes_on.rose c.requires.fits)

pub returns-in-Ok-clause-told : goal.returns-in-Ok-clause-told
returns-in-Ok-clause-told g c =
    let old = c.args.journal in
    let new = c.in-Ok.journal in
    let e = c.in-Ok.ensures in
    let w = c.args.scenario.now in
    ok_so c.conclude-told.result (Concludes w new c.deref.result.now) _
    (λ t is. concluded w old new c.in-Ok.senders.items e.goes_on.shape e.sent (Rose (g.D.Disk.faults old.disk) (g.D.Disk.faults new.disk)) e.goes_on.rose
    c.requires.fits t (subst (λ (ss : List Sender). Concludes w new ss t) c.deref.ensures.value is))
    c.conclude-told.ensures

pub returns-in-Ok-clause-starved : goal.returns-in-Ok-clause-starved
returns-in-Ok-clause-starved g c =
    let old = c.args.journal in
    let new = c.in-Ok.journal in
    let e = c.in-Ok.ensures in
    err_any c.conclude-told.result _
    (starved c.args.scenario.now old new c.in-Ok.senders.items e.goes_on.shape e.sent
    (Rose (g.D.Disk.faults old.disk) (g.D.Disk.faults new.disk)) e.goes_on.rose)

pub returns-in-Err-clause-starved : goal.returns-in-Err-clause-starved
returns-in-Err-clause-starved g c =
    let old = c.args.journal in
    subst (λ j. HasRun (Rose (g.D.Disk.faults old.disk) (g.D.Disk.faults j.disk)) c.args.scenario.now old j NoMemory no_memory_line) (sym c.in-Err.ensures.back)
    (unbegun c.args.scenario.now old (Rose (g.D.Disk.faults old.disk) (g.D.Disk.faults old.disk)) c.requires.whole)
