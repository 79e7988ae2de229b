use Rattle.std.proofs.Common.{◌≡◌, ◌≢◌, ◌+◌, All, length, vec_len}
use Rattle.upload_world.proofs.tests.workers.join_all.Given as goal

abbrev pub invariant-loop-job : goal.invariant-loop-job
invariant-loop-job g l = (l.first.book ≡ l.initial.first.book) × (l.first.view.number ≡ 1)
    × (length l.first.view.joined + vec_len l.jobs + 1 ≡ l.first.view.made)
    × All (λ j. (j.pass.book ≡ l.initial.first.book) × (j.pass.view.number ≢ 1)) l.jobs.items

abbrev pub decreases-loop-job : goal.decreases-loop-job
decreases-loop-job g l = vec_len l.jobs
