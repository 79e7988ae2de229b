use Rattle.book_laws.proofs.Workers.{law}
use Rattle.book_laws.proofs.laws.workers_leave_legal_lists.Goals as goal

pub returns : goal.returns
returns c = law
