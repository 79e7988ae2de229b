use Rattle.std.proofs.Common.{◌≡◌, ◌<◌, ℕ, length, get_or}
use Rattle.sumax_sketch.proofs.touched.row_places.Given as goal

abbrev pub invariant-loop-i : goal.invariant-loop-i
invariant-loop-i l = record {
  eight : length l.at ≡ 8;
  done : (k : ℕ) → k < l.i → get_or l.at k 0 ≡ get_or l.places k 0;
}
