use Rattle.book_laws.proofs.Refusals.{law}
use Rattle.book_laws.proofs.laws.refusals_have_causes.Goals as goal

pub returns : goal.returns
returns c = law
