use Rattle.std.proofs.Common.{refl, subst}
use Rattle.lg_model.specs.Scenario.{Scenario}
use Rattle.scenario_parts.specs.Whole.{IsWhole}
use Rattle.book_laws.proofs.Leaving.{standing}
use Rattle.guardian_run.specs.Changes.{change}
use Rattle.guardian_run.specs.Showing.{ShowsFrom}
use Rattle.guardian_run.proofs.Showing.{demo_ends, demo_unmade}
use Rattle.guardian_run.proofs.demo.demo.Goals as goal

pub returns-in-Ok : goal.returns-in-Ok
returns-in-Ok g c source left =
    let sink = change g.K.Sink.written g.K.Sink.faults c.args.sink.now c.show_over.new.sink in
    let is = c.in-Ok.ensures in
    demo_ends g.D.Disk.honest g.D.Disk.seen g.D.Disk.images g.D.Disk.moment g.D.Disk.since g.D.Disk.faults c.args.rounds source sink c.args.disk
    c.show_over.result.1 c.show_over.result.0 left
    (subst (λ (w : Scenario). IsWhole w) is c.show_over.ensures.whole) standing
    (subst (λ (w : Scenario). ShowsFrom g.D.Disk.honest g.D.Disk.seen g.D.Disk.images g.D.Disk.moment g.D.Disk.since g.D.Disk.faults c.args.rounds w
    sink c.args.disk
    c.show_over.result.1 c.show_over.result.0) is c.show_over.ensures.ends)

pub returns-in-Err : goal.returns-in-Err
returns-in-Err g c source left =
    let sink = change g.K.Sink.written g.K.Sink.faults c.args.sink.now c.end.new.sink in
    demo_unmade g.D.Disk.honest g.D.Disk.seen g.D.Disk.images g.D.Disk.moment g.D.Disk.since g.D.Disk.faults c.args.rounds source sink c.args.disk
    c.args.disk c.end.result left refl (g.met.D.Disk g.world.𝓛 g.world.𝓜 g.world.𝓡 ((λ s x. x), (λ x. x), (λ x. x), λ x. x)).only_now c.end.ensures.refused
