use Rattle.std.proofs.Common.{◌≡◌}
use Rattle.bench_parts.proofs.locks.work.Given as goal

abbrev pub invariant-loop-n : goal.invariant-loop-n
invariant-loop-n g l = (l.job.pass.book ≡ l.fn.job.pass.book) × (l.job.pass.view.number ≡ l.fn.job.pass.view.number)

abbrev pub invariant-loop-n-2 : goal.invariant-loop-n-2
invariant-loop-n-2 g l = (l.job.pass.book ≡ l.fn.job.pass.book) × (l.job.pass.view.number ≡ l.fn.job.pass.view.number)
