-- What a block and the blocks hold after a column was put.
use Rattle.std.specs.Prelude.{◌≡◌, ◌≢◌, ℕ, ◌*◌, ◌%◌, ◌^◌, ◌<◌, ◌==◌, List, [], Some, length, if◌then◌else◌, slice_set, bit_or}
use Rattle.std.specs.Int.{w16}
use Rattle.std.proofs.Common.{sym, ap, arith, inl, inr}
use Rattle.std.proofs.lemmas.Bool.Decides.{eqb_tells}
use Rattle.std.proofs.lemmas.List.{get_or-set_same, get_or-set_other}
use Rattle.std.proofs.lemmas.Nat.Bits.{bit_at_set_same, bit_at_set_other}
use Rattle.lg_model.specs.declared.column.Bucket.{Bucket}
use Rattle.column_book.specs.declared.block.Block.{Block}
use Rattle.column_book.specs.Blocks.{kept_in}

-- a column that is put at a place is there, and the others stay
pub put_in : (b : Block) (k j : ℕ) (bs : List Bucket) → k < 16 → length b.columns ≡ 16 →
    kept_in (record { mask = bit_or b.mask (1 * 2 ^ k % 65536); columns = slice_set b.columns k bs }) j ≡ (if k == j then Some bs else kept_in b j)
put_in b k j bs h len = elim (eqb_tells k j) [
  | inl same ↦ rw (same.0, ← same.1, bit_at_set_same w16 b.mask k h) (ap (λ (x : List Bucket). Some x) (get_or-set_same b.columns k bs [] (omega (arith, h, len))))
  | inr other ↦ let apart : j ≢ k = λ e. other.1 (sym e) in
      rw (other.0, bit_at_set_other w16 b.mask k h j apart, get_or-set_other b.columns k j bs [] apart)
]
