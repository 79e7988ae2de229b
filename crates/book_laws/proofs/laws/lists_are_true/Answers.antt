use Rattle.book_laws.proofs.Truth.{law}
use Rattle.book_laws.proofs.laws.lists_are_true.Goals as goal

pub returns : goal.returns
returns c = law
