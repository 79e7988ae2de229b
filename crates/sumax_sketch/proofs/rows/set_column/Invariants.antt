use Rattle.std.proofs.Common.{◌≡◌, ◌<◌, ◌≤◌, ℕ, length}
use Rattle.lg_model.proofs.Raising.{row_of}
use Rattle.sumax_sketch.specs.SketchState.{with_bucket}
use Rattle.sumax_sketch.proofs.rows.set_column.Given as goal

abbrev pub invariant-loop-i : goal.invariant-loop-i
invariant-loop-i l = record {
  same_length : length l.rows ≡ length l.initial.rows;
  done : (k : ℕ) → k < l.i → row_of l.rows k ≡ with_bucket l.index l.buckets (k, row_of l.initial.rows k);
  rest : (k : ℕ) → l.i ≤ k → row_of l.rows k ≡ row_of l.initial.rows k;
}
