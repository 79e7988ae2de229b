use Rattle.std.proofs.Common.{◌≡◌, ℕ, ◌<◌, false}
use Rattle.uploader_core.specs.States.{state_at, is_idle}
use Rattle.uploader_core.proofs.states.first_idle.Given as goal

abbrev pub invariant-loop-seq : goal.invariant-loop-seq
invariant-loop-seq l = (k : ℕ) → k < l.seq → is_idle (state_at l.states k) ≡ false
