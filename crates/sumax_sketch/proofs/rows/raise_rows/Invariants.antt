use Rattle.std.proofs.Common.{◌≡◌, ◌<◌, ◌≤◌, ℕ, length, take, min}
use Rattle.std.specs.Prelude.{slice_index, fold}
use Rattle.lg_model.specs.Sketch.{sums_at, raised_row}
use Rattle.lg_model.specs.declared.limits.TheConstants.{LAST_BYTES}
use Rattle.lg_model.proofs.Raising.{row_of}
use Rattle.sumax_sketch.proofs.rows.raise_rows.Given as goal

abbrev pub invariant-loop-i : goal.invariant-loop-i
invariant-loop-i l = record {
  same_length : length l.rows ≡ length l.initial.rows;
  running : l.running ≡ fold min LAST_BYTES (take l.i (sums_at (slice_index l.places) l.initial.rows));
  done : (k : ℕ) → k < l.i → row_of l.rows k ≡ raised_row (slice_index l.places) l.initial.rows l.size l.delay (k, row_of l.initial.rows k);
  rest : (k : ℕ) → l.i ≤ k → row_of l.rows k ≡ row_of l.initial.rows k;
}
