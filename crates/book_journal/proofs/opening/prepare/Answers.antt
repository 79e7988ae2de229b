use Rattle.std.proofs.Common.{◌∙◌, Ok, ap, sym, subst}
use Rattle.book_file.specs.declared.found.Found.{Found}
use Rattle.book_file.specs.File.{IsBlank}
use Rattle.book_journal.proofs.OpeningLemmas.{begun_leaves, blank_found, refused_for}
use Rattle.book_journal.proofs.opening.prepare.Goals as goal

pub returns-in-Ok-Blank-clause-leaves : goal.returns-in-Ok-Blank-clause-leaves
returns-in-Ok-Blank-clause-leaves g c = λ told.
    let old = c.args.disk.now in
    let mid = c.read_synced.new.disk in
    let reads = c.read_synced.ensures.reads in
    let blank = blank_found c.args.shape.now c.args.room (g.D.Disk.honest old) (g.D.Disk.seen old) c.read_synced.result
    (c.in-Ok-Blank.is ∙ ap (λ
    (f : Found). Ok f) c.in-Ok-Blank.field-0-is) c.read_synced.ensures.finds told in
    begun_leaves g.D.Disk.honest g.D.Disk.seen g.D.Disk.images g.D.Disk.moment g.D.Disk.since c.args.shape.now g.met.D.Disk.reads_image
    g.met.D.Disk.counts_now old mid c.begin.new.disk told reads c.begin.ensures.still blank
    (c.begin.ensures.crash (c.in-Ok-Blank.ensures.synced told) (subst IsBlank (sym (reads.same told)) blank))

pub returns-in-Err-clause-refused : goal.returns-in-Err-clause-refused
returns-in-Err-clause-refused g c = refused_for c.args.shape.now c.args.room (g.D.Disk.honest c.args.disk.now)
    (g.D.Disk.seen c.args.disk.now) c.in-Err.fault c.in-Err.ensures.finds
