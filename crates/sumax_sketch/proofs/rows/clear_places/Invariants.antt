use Rattle.std.proofs.Common.{◌≡◌, ◌<◌, ◌≤◌, ℕ, length, get_or}
use Rattle.std.specs.Prelude.{slice_set}
use Rattle.lg_model.specs.Sketch.{zero_bucket}
use Rattle.lg_model.proofs.Raising.{row_of}
use Rattle.sumax_sketch.proofs.rows.clear_places.Given as goal

abbrev pub invariant-loop-i : goal.invariant-loop-i
invariant-loop-i l = record {
  same_length : length l.rows ≡ length l.initial.rows;
  done : (k : ℕ) → k < l.i → row_of l.rows k ≡ slice_set (row_of l.initial.rows k) (get_or l.at k 0) zero_bucket;
  rest : (k : ℕ) → l.i ≤ k → row_of l.rows k ≡ row_of l.initial.rows k;
}
