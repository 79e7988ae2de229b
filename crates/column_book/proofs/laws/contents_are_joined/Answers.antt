use Rattle.column_book.proofs.Joins.{law}
use Rattle.column_book.proofs.laws.contents_are_joined.Goals as goal

pub returns : goal.returns
returns c = law
