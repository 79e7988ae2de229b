use Rattle.std.proofs.Common.{◌≡◌}
use Rattle.shared_book.proofs.tests.workers.work.Given as goal

abbrev pub invariant-loop-seq : goal.invariant-loop-seq
invariant-loop-seq g l = (l.job.pass.book ≡ l.fn.job.pass.book) × (l.job.pass.view.number ≡ l.fn.job.pass.view.number)
