-- A table is cleared at the noted places, one packet after the other.
use Rattle.std.specs.Prelude.{◌≡◌, ◌≢◌, ℕ, ◌+◌, ◌<◌, ◌≤◌, List, [], ◌∷◌, zero, suc, true, false, length, map, replicate, slice_index, slice_index_or, slice_set}
use Rattle.std.proofs.Common.{refl, sym, ap, ◌∙◌, subst, arith, inl, inr, ext_get_or}
use Rattle.std.proofs.lemmas.Bool.{false≢true}
use Rattle.std.proofs.lemmas.List.{get_or-set_other, length-set, length-replicate, get_or-replicate}
use Rattle.std.proofs.lemmas.Bool.Decides.{eqb_tells}
use Rattle.lg_model.specs.declared.column.Bucket.{Bucket}
use Rattle.lg_model.specs.Placing.{Shape}
use Rattle.lg_model.specs.Sketch.{Table, bucket_at, zero_bucket, zero_table, raise}
use Rattle.lg_model.proofs.Raising.{row_of, bucket_raised_other, length-raise}
use Rattle.sumax_sketch.specs.Touched.{Noted, IsNoted, IsNotedToo, AreZeroedAt, ArePlaces, noted_place}
use Rattle.sumax_sketch.proofs.Columns.{zeros_by_rows}

-- The places of the first k packets are cleared: what none of the others touched is zero.
pub record IsClearedTo (k : ℕ) (note : Noted) (old new : Table) : Type 0 where
  pub rows : length new ≡ length old
  pub width : (i : ℕ) → i < length old → length (row_of new i) ≡ length (row_of old i)
  pub zeros : (i j : ℕ) → i < length old → ((n : ℕ) → k ≤ n → n < note.count → noted_place note.list n i ≢ j) → bucket_at new i j ≡ zero_bucket

pub cleared_none : (note : Noted) (t : Table) → note.many ≡ false → IsNoted note t → IsClearedTo 0 note t t
cleared_none note t few is = record {
  rows = refl;
  width = λ i h. refl;
  zeros = λ i j h none. is i j h (record { few = few; none = λ n low. none n (omega arith) low });
}

-- a list that was set to d at index i has d at index i, inside or past it
set_default : (xs : List Bucket) (i : ℕ) → slice_index_or (slice_set xs i zero_bucket) i zero_bucket ≡ zero_bucket
set_default [] i = refl
set_default (x ∷ xs) zero = refl
set_default (x ∷ xs) (suc i) = set_default xs i

pub cleared_next : (k : ℕ) (note : Noted) (old now new : Table) → IsClearedTo k note old now → AreZeroedAt (slice_index_or note.list k []) now new →
    IsClearedTo (k + 1) note old new
cleared_next k note old now new held zeroed = record {
  rows = zeroed.rows ∙ held.rows;
  width = λ i h. let h' : i < length now = omega (arith, held.rows) in
      ap length (zeroed.each i h') ∙ length-set (row_of now i) _ _ ∙ held.width i h;
  zeros = λ i j h none.
      let h' : i < length now = omega (arith, held.rows) in
      let p : ℕ = noted_place note.list k i in
      let is : bucket_at new i j ≡ slice_index_or (slice_set (row_of now i) p zero_bucket) j zero_bucket =
      ap (λ (row : List Bucket). slice_index_or row j zero_bucket) (zeroed.each i h') in
      elim (eqb_tells p j) [
        | inl same ↦ is ∙ subst (λ (q : ℕ). slice_index_or (slice_set (row_of now i) p zero_bucket) q zero_bucket ≡ zero_bucket) same.1 (set_default (row_of now i) p)
        | inr other ↦ is ∙ get_or-set_other (row_of now i) p j zero_bucket zero_bucket (λ e. other.1 (sym e))
            ∙ held.zeros i j h (λ n low high. elim (eqb_tells n k) [
              | inl at ↦ subst (λ (m : ℕ). noted_place note.list m i ≢ j) (sym at.1) other.1
              | inr past ↦ let ne : n ≢ k = past.1 in none n (omega arith) high
            ])
      ];
}

-- when all are cleared, all rows are zeros
pub cleared_all : (k : ℕ) (note : Noted) (old new : Table) → IsClearedTo k note old new → note.count ≤ k →
    new ≡ map (λ row. replicate (length row) zero_bucket) old
cleared_all k note old new held all =
    zeros_by_rows old new held.rows
    (λ i h. ext_get_or zero_bucket (row_of new i) (replicate (length (row_of old i)) zero_bucket)
    (held.width i h ∙ sym (length-replicate (length (row_of old i)) zero_bucket))
    (λ j low. let low' : j < length (row_of old i) = omega (arith, held.width i h) in
    held.zeros i j h (λ n from to. absurd (omega arith)) ∙ sym (get_or-replicate (length (row_of old i)) j zero_bucket zero_bucket low')))

-- a packet is counted where its places are noted
pub noted_raise : (array places : List ℕ) (old new : Noted) (v d : ℕ) (t : Table) → ArePlaces array places → length places ≡ length t →
    IsNotedToo array old new → IsNoted old t → IsNoted new (raise (slice_index places) v d t)
noted_raise array places old new v d t are len too is i j h untouched =
    let low : i < length t = omega (arith, length-raise (slice_index places) v d t) in
    let both = too i j untouched in
    let here : i < length places = omega (arith, len) in
    bucket_raised_other (slice_index places) v d t i j low (λ e. both.1 (are i here ∙ sym e)) ∙ is i j low both.0

replicate_default : (n j : ℕ) → slice_index_or (replicate n zero_bucket) j zero_bucket ≡ zero_bucket
replicate_default zero j = refl
replicate_default (suc n) zero = refl
replicate_default (suc n) (suc j) = replicate_default n j

-- of a table of zeros any note tells enough
pub noted_zeros : (note : Noted) (shape : Shape) → IsNoted note (zero_table shape)
noted_zeros note shape i j h untouched =
    let low : i < shape.rows = omega (arith, length-replicate shape.rows (replicate shape.width zero_bucket)) in
    ap (λ (row : List Bucket). slice_index_or row j zero_bucket) (get_or-replicate shape.rows i (replicate shape.width zero_bucket) [] low) ∙ replicate_default shape.width j

-- a note of many tells of every bucket
pub noted_many : (note : Noted) (t : Table) → note.many ≡ true → IsNoted note t
noted_many note t many i j h untouched = absurd (false≢true (sym untouched.few ∙ many))
