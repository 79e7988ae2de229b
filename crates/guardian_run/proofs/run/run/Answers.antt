use Rattle.std.proofs.Common.{refl, subst}
use Rattle.book_laws.proofs.Leaving.{standing}
use Rattle.guardian_run.specs.Changes.{change}
use Rattle.guardian_run.specs.Ending.{EndsRefused}
use Rattle.guardian_run.proofs.RunEnding.{no_read, ends_run, ends_unread}
use Rattle.guardian_run.proofs.run.run.Goals as goal

pub returns-in-Ok : goal.returns-in-Ok
returns-in-Ok g c =
    let source = change g.S.Source.left g.S.Source.faults c.args.source.now c.read.new.source in
    let sink = change g.K.Sink.written g.K.Sink.faults c.args.sink.now c.run_over.new.sink in
    let o = c.in-Ok.ensures in
    ends_run g.D.Disk.honest g.D.Disk.seen g.D.Disk.images g.D.Disk.moment g.D.Disk.since g.D.Disk.faults c.in-Ok.scenario c.run_over.ensures.whole standing
    source sink c.args.disk c.run_over.result.1 c.run_over.result.0 o.says o.took o.never_falls c.run_over.ensures.ends

pub returns-in-Err : goal.returns-in-Err
returns-in-Err g c =
    let source = change g.S.Source.left g.S.Source.faults c.args.source.now c.read.new.source in
    let sink = change g.K.Sink.written g.K.Sink.faults c.args.sink.now c.end.new.sink in
    let e = c.in-Err.ensures in
    ends_unread g.D.Disk.honest g.D.Disk.seen g.D.Disk.images g.D.Disk.moment g.D.Disk.since g.D.Disk.faults source sink c.args.disk c.args.disk c.end.result
    c.in-Err.fault refl e.says e.took e.fault e.never_falls (subst (λ r. EndsRefused r sink c.end.result) c.from.ensures c.end.ensures.refused)
    (no_read g.D.Disk.honest g.D.Disk.seen g.D.Disk.images g.D.Disk.moment g.D.Disk.since g.D.Disk.faults
    (g.met.D.Disk g.world.𝓛 g.world.𝓜 g.world.𝓡 ((λ s x. x), (λ x. x), (λ x. x), λ x. x)).only_now c.args.disk)
