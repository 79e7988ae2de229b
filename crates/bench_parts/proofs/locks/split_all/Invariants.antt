use Rattle.std.proofs.Common.{◌≡◌, ◌≢◌, ◌+◌, All, length, vec_len}
use Rattle.bench_parts.proofs.locks.split_all.Given as goal

abbrev pub invariant-loop-i : goal.invariant-loop-i
invariant-loop-i g l = (l.first.book ≡ l.fn.first.book) × (l.first.view.number ≡ 1) × (l.first.view.made ≡ 1 + l.i)
    × (length l.first.view.joined + vec_len l.jobs + 1 ≡ l.first.view.made)
    × All (λ j. (j.pass.book ≡ l.fn.first.book) × (j.pass.view.number ≢ 1)) l.jobs.items
