use Rattle.column_book.proofs.Outcomes.{law}
use Rattle.column_book.proofs.laws.answers_follow.Goals as goal

pub returns : goal.returns
returns c = law
