use Rattle.std.proofs.Common.{refl, ap}
use Rattle.book_file.specs.Walk.{WalkState}
use Rattle.book_journal.proofs.ReadLemmas.{one_read, then_read}
use Rattle.book_journal.proofs.LookLemmas.{outside, is_fed_from, finished}
use Rattle.book_journal.proofs.looking.read_file.Goals as goal

pub returns-in_default-new-clause-finds : goal.returns-in_default-new-clause-finds
returns-in_default-new-clause-finds g c = λ told. record { file = g.D.Disk.seen c.args.disk.now; held = λ h. refl; told = tt }

pub returns-in-Err-clause-finds : goal.returns-in-Err-clause-finds
returns-in-Err-clause-finds g c = λ told. outside _ c.args.room (g.D.Disk.honest c.args.disk.now)
    (g.D.Disk.seen c.args.disk.now) c.in-Err.fault c.in-Err.ensures.only told

pub returns-clause-reads : goal.returns-clause-reads
returns-clause-reads g c =
    then_read g.D.Disk.honest g.D.Disk.seen g.D.Disk.images g.D.Disk.moment g.D.Disk.since g.met.D.Disk.counts_now c.args.disk.now
    c.len.new.self
    c.feed_all.new.disk
    (one_read g.D.Disk.honest g.D.Disk.seen g.D.Disk.images g.D.Disk.moment g.D.Disk.since c.args.disk.now c.len.new.self
    c.len.ensures.course
    c.len.ensures.seen)
    c.feed_all.ensures.reads

pub returns-clause-finds : goal.returns-clause-finds
returns-clause-finds g c = λ told.
    let honest = g.D.Disk.honest c.args.disk.now in
    let seen = g.D.Disk.seen c.args.disk.now in
    finished _ c.args.room c.in-Ok.len honest seen c.in-Ok-new.walk c.feed_all.new.walk c.finish.result c.in-Ok-new.ensures.read
    (is_fed_from honest (g.D.Disk.honest c.len.new.self) seen (g.D.Disk.seen c.len.new.self) c.in-Ok-new.walk c.feed_all.new.walk
    c.len.ensures.course.still c.len.ensures.seen c.in_default-feed_all.ensures.fed)
    (ap (λ (w : WalkState). w.len) c.in-Ok-new.ensures.value)
    c.in-Ok.ensures.length
    (ap (λ (w : WalkState). w.asked) c.in-Ok-new.ensures.value)
    (ap (λ (w : WalkState). w.room) c.in-Ok-new.ensures.value)
    c.finish.ensures.finds
