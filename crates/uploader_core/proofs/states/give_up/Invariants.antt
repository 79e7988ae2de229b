use Rattle.std.proofs.Common.{◌≡◌, ℕ, ◌<◌, ◌≤◌, false, length}
use Rattle.uploader_core.specs.States.{state_at, is_outstanding, outstanding, ticked}
use Rattle.uploader_core.proofs.states.give_up.Given as goal

abbrev pub invariant-loop-seq : goal.invariant-loop-seq
invariant-loop-seq l = record {
  same : ticked l.states ≡ ticked l.initial.states;
  counted : l.left ≡ outstanding l.states;
  none : (k : ℕ) → k < l.seq → is_outstanding (state_at l.states k) ≡ false;
  first : (k : ℕ) → k < l.first → k < l.seq → is_outstanding (state_at l.initial.states k) ≡ false;
  later : (k : ℕ) → l.seq ≤ k → state_at l.states k ≡ state_at l.initial.states k;
  within : l.first ≤ length l.states;
}
