use Rattle.std.proofs.Common.{◌≡◌, ◌<◌, ◌≤◌, ℕ, length, get_or}
use Rattle.lg_model.specs.Sketch.{bucket_in, zero_bucket}
use Rattle.lg_model.proofs.Raising.{row_of}
use Rattle.sumax_sketch.proofs.rows.column.Given as goal

abbrev pub invariant-loop-i : goal.invariant-loop-i
invariant-loop-i l = record {
  eight : length l.column ≡ 8;
  done : (k : ℕ) → k < l.i → get_or l.column k zero_bucket ≡ bucket_in (row_of l.rows k) l.index;
  rest : (k : ℕ) → l.i ≤ k → get_or l.column k zero_bucket ≡ zero_bucket;
}
