use Rattle.book_laws.proofs.Growing.{law}
use Rattle.book_laws.proofs.laws.legal_lists_grow.Goals as goal

pub returns : goal.returns
returns c = law
