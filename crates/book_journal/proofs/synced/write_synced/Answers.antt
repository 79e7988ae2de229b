use Rattle.std.proofs.Common.{length}
use Rattle.book_journal.proofs.CrashLemmas.{wrote, kept}
use Rattle.book_journal.proofs.synced.write_synced.Goals as goal

pub returns-in_err-write_at-clause-crash : goal.returns-in_err-write_at-clause-crash
returns-in_err-write_at-clause-crash g c synced =
    wrote g.D.Disk.honest g.D.Disk.seen g.D.Disk.images g.D.Disk.moment g.D.Disk.since c.args.at
    (length c.args.bytes.now) c.args.disk.now c.write_at.new.self c.write_at.ensures.course synced

pub returns-clause-crash : goal.returns-clause-crash
returns-clause-crash g c synced =
    let first = wrote g.D.Disk.honest g.D.Disk.seen g.D.Disk.images g.D.Disk.moment g.D.Disk.since c.args.at
    (length c.args.bytes.now) c.args.disk.now c.write_at.new.self c.write_at.ensures.course synced in
    kept g.D.Disk.honest g.D.Disk.seen g.D.Disk.images g.D.Disk.moment g.D.Disk.since g.met.D.Disk.counts_now _ c.args.disk.now
    c.write_at.new.self
    c.sync.new.self (c.write_at.ensures.course.still synced.told) first c.sync.ensures.course
