use Rattle.book_journal.proofs.CrashLemmas.{cut, kept}
use Rattle.book_journal.proofs.synced.cut_synced.Goals as goal

pub returns-in_err-cut-clause-crash : goal.returns-in_err-cut-clause-crash
returns-in_err-cut-clause-crash g c synced =
    cut g.D.Disk.honest g.D.Disk.seen g.D.Disk.images g.D.Disk.moment g.D.Disk.since c.args.len c.args.disk.now
    c.cut.new.self c.cut.ensures.course synced

pub returns-clause-crash : goal.returns-clause-crash
returns-clause-crash g c synced =
    let first = cut g.D.Disk.honest g.D.Disk.seen g.D.Disk.images g.D.Disk.moment g.D.Disk.since c.args.len c.args.disk.now c.cut.new.self
    c.cut.ensures.course synced in
    kept g.D.Disk.honest g.D.Disk.seen g.D.Disk.images g.D.Disk.moment g.D.Disk.since g.met.D.Disk.counts_now _ c.args.disk.now
    c.cut.new.self
    c.sync.new.self (c.cut.ensures.course.still synced.told) first c.sync.ensures.course
