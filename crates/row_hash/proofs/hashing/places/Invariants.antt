use Rattle.std.proofs.Common.{◌≡◌, ◌<◌, ℕ, get_or, length}
use Rattle.lg_model.specs.Placing.{place}
use Rattle.row_hash.proofs.hashing.places.Given as goal

abbrev pub invariant-loop-i : goal.invariant-loop-i
invariant-loop-i l = record {
  eight : length l.at ≡ 8;
  done : (k : ℕ) → k < l.i → get_or l.at k 0 ≡ place l.shape l.key k;
}
