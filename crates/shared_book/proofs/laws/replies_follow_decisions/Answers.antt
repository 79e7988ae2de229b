use Rattle.shared_book.proofs.Replies.{law}
use Rattle.shared_book.proofs.laws.replies_follow_decisions.Goals as goal

pub returns : goal.returns
returns c = law
