use Rattle.std.proofs.Common.{None, refl, sym, ap, subst}
use Rattle.lg_model.specs.Placing.{Shape}
use Rattle.column_book.specs.Entries.{BookState, records}
use Rattle.book_file.specs.File.{Spells}
use Rattle.book_journal.specs.Kept.{state_of}
use Rattle.book_journal.proofs.OpeningLemmas.{only_outside}
use Rattle.book_journal.proofs.RunLemmas.{run_start}
use Rattle.book_journal.proofs.journal.Journal.open.Goals as goal

pub returns-in-Err-clause-complete : goal.returns-in-Err-clause-complete
returns-in-Err-clause-complete g c = λ told rs stands few.
    only_outside c.args.shape.now c.args.room (g.D.Disk.honest c.args.disk)
    (g.D.Disk.seen c.args.disk) c.in-Err.fault c.in-Err.ensures.refused told rs
    stands few

pub returns-in-Ok-clause-runs : goal.returns-in-Ok-clause-runs
returns-in-Ok-clause-runs g c = λ told.
    let b = c.in-Ok.book in
    let disk = c.prepare.new.disk in
    let opened = c.in-Ok.ensures.opened (c.prepare.ensures.was told) in
    let same = ap (λ (x : BookState). x.shape) c.in-Ok.ensures.read.book in
    let spells = subst (λ (s : Shape). Spells s (records b.entries) (g.D.Disk.seen disk)) (sym same) opened.spells in
    run_start g.D.Disk.honest g.D.Disk.seen g.D.Disk.images g.D.Disk.moment g.D.Disk.since g.met.D.Disk.only_now
    (state_of disk b None) told refl
    (record { synced = opened.synced; spells = spells })
