use Rattle.std.proofs.Common.{◌≡◌, ◌≤◌, List, sym, ap, subst, ◌∙◌, arith}
use Rattle.lg_model.specs.Placing.{Shape}
use Rattle.column_book.specs.declared.book.TheConstants.{ROOM}
use Rattle.column_book.specs.declared.entry.Entry.{Entry}
use Rattle.column_book.specs.Entries.{records}
use Rattle.book_file.specs.File.{StandsFor}
use Rattle.book_file.specs.Found.{count_of}
use Rattle.book_journal.specs.Looking.{Reads}
use Rattle.book_journal.specs.Opening.{IsRefused, OpenLeaves}
use Rattle.guardian_run.specs.Changes.{change}
use Rattle.guardian_run.specs.Ending.{EndsRefused}
use Rattle.guardian_run.specs.Showing.{ShowsFrom}
use Rattle.guardian_run.proofs.RunEnding.{start_ends}
use Rattle.guardian_run.proofs.Showing.{fault_end, as_run, shows_ends}
use Rattle.guardian_run.proofs.demo.show_over.Goals as goal

pub returns-in-Err-clause-ends : goal.returns-in-Err-clause-ends
returns-in-Err-clause-ends g c =
    let w = c.args.scenario.now in
    let sink = change g.K.Sink.written g.K.Sink.faults c.args.sink.now c.end.new.sink in
    let start = c.args.disk in
    let asked = c.shape.ensures.value in
    let e = c.in-Err.ensures in
    let refused = subst (λ r. EndsRefused r sink c.end.result) c.from.ensures c.end.ensures.refused in
    as_run g.D.Disk.honest g.D.Disk.seen g.D.Disk.images g.D.Disk.moment g.D.Disk.since g.D.Disk.faults c.args.rounds w sink start c.in-Err.disk c.end.result
    (start_ends g.D.Disk.honest g.D.Disk.seen g.D.Disk.images g.D.Disk.moment g.D.Disk.since g.D.Disk.faults w sink c.end.result c.in-Err.fault start
    c.in-Err.disk
    (subst (λ (s : Shape). Reads (g.D.Disk.honest start) (g.D.Disk.seen start) (λ file. IsRefused s ROOM file c.in-Err.fault)) asked e.refused)
    refused e.cause
    (λ h. subst (λ (s : Shape). OpenLeaves g.D.Disk.honest g.D.Disk.seen g.D.Disk.images g.D.Disk.moment g.D.Disk.since s start c.in-Err.disk) asked
    (e.leaves h))
    e.untouched e.was e.never_falls)
    (fault_end c.in-Err.fault sink c.end.result refused)

pub returns-clause-ends : goal.returns-clause-ends
returns-clause-ends g c =
    let w = c.args.scenario.now in
    let sink = change g.K.Sink.written g.K.Sink.faults c.args.sink.now c.end_run.new.sink in
    let start = c.args.disk in
    let asked = c.shape.ensures.value in
    let j = c.in-Ok.journal in
    let new = c.show-told.result.1 in
    let o = c.in-Ok.ensures in
    let b = c.book.ensures in
    let few : count_of (records j.entries) ≤ ROOM =
    let count : count_of (records j.entries) ≡ c.count.result = ap (λ (es : List Entry). count_of (records es)) (sym b.2) ∙ sym c.count.ensures.value in
    let room : c.book.result.now.room ≡ ROOM = b.1 ∙ ap (λ x. x.room) o.book in
    let low = c.count.ensures.few in omega (arith, count, room, low) in
    subst (λ d. ShowsFrom g.D.Disk.honest g.D.Disk.seen g.D.Disk.images g.D.Disk.moment g.D.Disk.since g.D.Disk.faults c.args.rounds w sink start d
    c.end_run.result)
    (sym c.close-disk.ensures.disk)
    (shows_ends g.D.Disk.honest g.D.Disk.seen g.D.Disk.images g.D.Disk.moment g.D.Disk.since g.D.Disk.faults
    (g.met.D.Disk g.world.𝓛 g.world.𝓜 g.world.𝓡 ((λ s x. x), (λ x. x), (λ x. x), λ x. x)).reads_image w c.shape.ensures.whole
    c.lists_are_true.ensures c.files_stand_for_one_list.ensures sink start j new (ap (λ x. x.shape) o.book ∙ asked)
    (λ h. subst (λ (s : Shape). StandsFor s (records j.entries) (g.D.Disk.seen start)) asked (o.stands h)) few
    (λ h. subst (λ (s : Shape). OpenLeaves g.D.Disk.honest g.D.Disk.seen g.D.Disk.images g.D.Disk.moment g.D.Disk.since s start j.disk) asked (o.leaves h))
    o.was o.never_falls c.show-told.ensures.goes_on c.args.rounds c.end_run.result c.show-told.result.0 c.show-told.ensures.told c.show-told.ensures.starved
    c.end_run.ensures.told c.end_run.ensures.starved)
