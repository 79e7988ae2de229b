use Rattle.shared_book.proofs.Told.{law}
use Rattle.shared_book.proofs.laws.applies_are_told.Goals as goal

pub returns : goal.returns
returns c = law
