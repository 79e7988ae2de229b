use Rattle.column_book.proofs.Applying.{law}
use Rattle.column_book.proofs.laws.check_and_add_apply.Goals as goal

pub returns : goal.returns
returns c = law
