-- Columns of a table, and tables with other columns.
use Rattle.std.specs.Prelude.{◌≡◌, ℕ, ◌+◌, ◌-◌, ◌<◌, ◌≤◌, List, [], length, map, take, drop, replicate, slice_index_or}
use Rattle.std.specs.List.{enumerate_from}
use Rattle.std.proofs.Common.{sym, ap, ◌∙◌, zero-add, arith, ext_get_or, length-take, get_or-take}
use Rattle.std.proofs.lemmas.List.{get_or-map, length-map, length-set, length-drop, get_or-drop, length-replicate, get_or-replicate}
use Rattle.std.proofs.lemmas.List.FromFn.{length-enumerate_from, get_or-enumerate_from}
use Rattle.lg_model.specs.declared.column.Bucket.{Bucket}
use Rattle.lg_model.specs.Placing.{Shape}
use Rattle.lg_model.specs.Sketch.{Table, IsTable, zero_bucket, zero_table, bucket_in, column_at}
use Rattle.lg_model.proofs.Raising.{row_of}
use Rattle.sumax_sketch.specs.SketchState.{with_bucket, with_column}

length-with_column : (j : ℕ) (buckets : List Bucket) (t : Table) → length (with_column j buckets t) ≡ length t
length-with_column j buckets t = length-map (enumerate_from 0 t) (with_bucket j buckets) ∙ length-enumerate_from 0 t

row_with_column : (j : ℕ) (buckets : List Bucket) (t : Table) (i : ℕ) → i < length t → row_of (with_column j buckets t) i ≡ with_bucket j buckets (i, row_of t i)
row_with_column j buckets t i h =
    let inside : i < length (enumerate_from 0 t) = rw length-enumerate_from h in
    get_or-map (with_bucket j buckets) (enumerate_from 0 t) i (0, []) [] inside
    ∙ ap (with_bucket j buckets) (get_or-enumerate_from 0 t i (0, []) h ∙ ap (λ n. (n, row_of t i)) (zero-add i))

-- a table whose rows all have the other bucket is the table with the other column
pub with_column_by_rows : (j : ℕ) (buckets : List Bucket) (t u : Table) → length u ≡ length t →
    ((k : ℕ) → k < length t → row_of u k ≡ with_bucket j buckets (k, row_of t k)) → u ≡ with_column j buckets t
with_column_by_rows j buckets t u len each =
    ext_get_or [] u (with_column j buckets t) (len ∙ sym (length-with_column j buckets t))
    (λ k h. let in_t : k < length t = omega (arith, len) in each k in_t ∙ sym (row_with_column j buckets t k in_t))

pub IsTable-with_column : (shape : Shape) (j : ℕ) (buckets : List Bucket) (t : Table) → IsTable shape t → IsTable shape (with_column j buckets t)
IsTable-with_column shape j buckets t is = record {
  rows = length-with_column j buckets t ∙ is.rows;
  width = λ i h. let in_t : i < length t = omega (arith, is.rows) in
      ap length (row_with_column j buckets t i in_t) ∙ length-set (row_of t i) j _ ∙ is.width i h;
}

-- the row of a table of zeros
abbrev zeros : List Bucket → List Bucket
zeros row = replicate (length row) zero_bucket

-- a table whose rows are all zeros, by its rows and by its shape
pub zeros_by_rows : (t u : Table) → length u ≡ length t → ((k : ℕ) → k < length t → row_of u k ≡ replicate (length (row_of t k)) zero_bucket) →
    u ≡ map (λ row. replicate (length row) zero_bucket) t
zeros_by_rows t u len each =
    ext_get_or [] u (map zeros t) (len ∙ sym (length-map t zeros))
    (λ k h. let in_t : k < length t = omega (arith, len) in each k in_t ∙ sym (get_or-map zeros t k [] [] in_t))

pub zeros_of_shape : (shape : Shape) (t : Table) → IsTable shape t → map (λ row. replicate (length row) zero_bucket) t ≡ zero_table shape
zeros_of_shape shape t is =
    ext_get_or [] (map zeros t) (zero_table shape) (length-map t zeros ∙ is.rows ∙ sym (length-replicate shape.rows (replicate shape.width zero_bucket)))
    (λ k h. let in_t : k < length t = omega (arith, length-map t zeros) in
    let in_shape : k < shape.rows = omega (arith, is.rows) in
    get_or-map zeros t k [] [] in_t ∙ ap (λ n. replicate n zero_bucket) (is.width k in_shape) ∙ sym (get_or-replicate shape.rows k (replicate shape.width zero_bucket) [] in_shape))

-- eight buckets of which the first are those of the rows at an index
pub column_by_rows : (j : ℕ) (t : Table) (buckets : List Bucket) → length buckets ≡ 8 → length t ≤ 8 →
    ((k : ℕ) → k < length t → slice_index_or buckets k zero_bucket ≡ bucket_in (row_of t k) j) → take (length t) buckets ≡ column_at t j
column_by_rows j t buckets eight few each =
    let f : List Bucket → Bucket = λ row. bucket_in row j in
    let len : length (take (length t) buckets) ≡ length t = omega (arith, length-take (length t) buckets) in
    ext_get_or zero_bucket (take (length t) buckets) (column_at t j) (len ∙ sym (length-map t f))
    (λ k h. let in_t : k < length t = omega (arith, len) in
    get_or-take (length t) buckets k zero_bucket in_t ∙ each k in_t ∙ sym (get_or-map f t k [] zero_bucket in_t))

-- eight buckets of which those past the rows are zeros
pub rest_by_rows : (t : Table) (buckets : List Bucket) → length buckets ≡ 8 → length t ≤ 8 →
    ((k : ℕ) → length t ≤ k → slice_index_or buckets k zero_bucket ≡ zero_bucket) → drop (length t) buckets ≡ replicate (8 - length t) zero_bucket
rest_by_rows t buckets eight few each =
    let n = length t in
    let len : length (drop n buckets) ≡ 8 - n = omega (arith, length-drop n buckets) in
    ext_get_or zero_bucket (drop n buckets) (replicate (8 - n) zero_bucket) (len ∙ sym (length-replicate (8 - n) zero_bucket))
    (λ k h. let in_rest : k < 8 - n = omega (arith, len) in
    let past : n ≤ n + k = omega arith in
    get_or-drop n buckets k zero_bucket ∙ each (n + k) past ∙ sym (get_or-replicate (8 - n) k zero_bucket zero_bucket in_rest))

pub IsTable-zeros : (shape : Shape) → IsTable shape (zero_table shape)
IsTable-zeros shape = record {
  rows = length-replicate shape.rows (replicate shape.width zero_bucket);
  width = λ i h. ap length (get_or-replicate shape.rows i (replicate shape.width zero_bucket) [] h) ∙ length-replicate shape.width zero_bucket;
}
