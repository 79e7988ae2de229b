use Rattle.std.proofs.Common.{sym, subst}
use Rattle.column_book.specs.Entries.{BookState}
use Rattle.book_journal.specs.Opening.{IsRead}
use Rattle.book_journal.proofs.OpeningLemmas.{read_empty}
use Rattle.book_journal.proofs.opening.begin.Goals as goal

pub returns-clause-read : goal.returns-clause-read
returns-clause-read g c =
    subst (λ (b : BookState). IsRead c.args.shape.now c.args.room b 17) (sym c.in-Ok.ensures)
    (read_empty c.args.shape.now c.args.room c.create.ensures.fits c.requires.few)
