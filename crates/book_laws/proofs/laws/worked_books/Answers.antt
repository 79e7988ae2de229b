use Rattle.book_laws.proofs.Rows.{worked}
use Rattle.book_laws.proofs.laws.worked_books.Goals as goal

pub returns : goal.returns
returns c = worked
