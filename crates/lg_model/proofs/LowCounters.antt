-- No counter passes the greatest number.
use Rattle.std.specs.Prelude.{◌≡◌, ℕ, zero, suc, ◌+◌, ◌<◌, ◌≤◌, List, [], ◌∷◌, map, length, fold, min, max, slice_index, slice_index_or, slice_set, replicate, All, ◌⊎◌}
use Rattle.std.specs.List.{enumerate_from}
use Rattle.std.proofs.Common.{refl, sym, ap, ◌∙◌, subst, arith, inl, inr}
use Rattle.std.proofs.lemmas.List.Elements.{All-nil, All-cons, All-head, All-tail, All-replicate, All-set, All-get_or}
use Rattle.std.proofs.Math.ListN.{get_or-eq_default}
use Rattle.std.proofs.lemmas.Bool.{cases_lt}
use Rattle.lg_model.specs.declared.column.Bucket.{Bucket}
use Rattle.lg_model.specs.Placing.{Shape, places_of}
use Rattle.lg_model.specs.Trace.{Observation}
use Rattle.lg_model.specs.Sketch.{Table, bucket_in, zero_bucket, zero_table, raised_row, raise, raise_by, table_of}
use Rattle.lg_model.specs.Bound.{IsLow, LawOfTheLimits}

abbrev LowRow : List Bucket → Type 0
LowRow row = All IsLow row

zero_low : IsLow zero_bucket
zero_low = record { bytes = omega arith; delay = omega arith }

pub low_in : (row : List Bucket) (j : ℕ) → LowRow row → IsLow (bucket_in row j)
low_in row j h =
    elim (cases_lt j (length row)) [
      | inl inside ↦ All-get_or IsLow row j zero_bucket inside h
      | inr past ↦ subst IsLow (sym (get_or-eq_default row zero_bucket past)) zero_low
    ]

rows_low : (at : ℕ → ℕ) (t : Table) (v d a : ℕ) (rows : List (List Bucket)) → All LowRow rows → All LowRow (map (raised_row at t v d) (enumerate_from a rows))
rows_low at t v d a [] h = All-nil LowRow
rows_low at t v d a (row ∷ rows) h =
    let here : LowRow row = All-head LowRow row rows h in
    let old : IsLow (bucket_in row (at a)) = low_in row (at a) here in
    let first : LowRow (raised_row at t v d (a, row)) = All-set IsLow row (at a) _ (record { bytes = let low = old.bytes in omega arith; delay = let low = old.delay in omega arith }) here in
    All-cons LowRow _ _ first (rows_low at t v d (a + 1) rows (All-tail LowRow row rows h))

fold_low : (shape : Shape) (xs : List Observation) (t : Table) → All LowRow t → All LowRow (fold (raise_by shape) t xs)
fold_low shape [] t h = h
fold_low shape (x ∷ xs) t h = fold_low shape xs (raise_by shape t x) (rows_low (slice_index (places_of shape x.key)) t x.size x.delay 0 t h)

pub limits : LawOfTheLimits
limits shape xs = fold_low shape xs (zero_table shape) (All-replicate LowRow shape.rows _ (All-replicate IsLow shape.width zero_bucket zero_low))
