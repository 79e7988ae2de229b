use Rattle.run_laws.proofs.Agreeing.{true_book}
use Rattle.run_laws.proofs.laws.books_are_true.Goals as goal

pub returns : goal.returns
returns c = true_book
