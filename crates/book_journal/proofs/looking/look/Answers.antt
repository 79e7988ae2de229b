use Rattle.std.proofs.Common.{◌∙◌, ap, Ok}
use Rattle.book_file.specs.declared.found.Found.{Found}
use Rattle.book_journal.proofs.LookLemmas.{looked_book, looked_fault}
use Rattle.book_journal.proofs.looking.look.Goals as goal

pub returns-in-Err-clause-looks : goal.returns-in-Err-clause-looks
returns-in-Err-clause-looks g c =
    looked_fault _ (g.D.Disk.honest c.args.disk.now) (g.D.Disk.seen c.args.disk.now) c.in-Err.fault c.in-Err.ensures.finds

pub returns-in-Ok-Book-clause-looks : goal.returns-in-Ok-Book-clause-looks
returns-in-Ok-Book-clause-looks g c = looked_book _ (g.D.Disk.honest c.args.disk.now) (g.D.Disk.seen c.args.disk.now) c.in-Ok-Book.book _
    c.read_file.result (c.in-Ok-Book.is ∙ ap (λ (f : Found). Ok f) c.in-Ok-Book.field-0-is) c.read_file.ensures.finds
