-- A table after a column was set, bucket by bucket.
use Rattle.std.specs.Prelude.{◌≡◌, ◌≢◌, ℕ, zero, suc, ◌+◌, ◌<◌, List, [], ◌∷◌, ◌++◌, drop, length, Option, None, Some, IsSomeAnd, replicate, slice_index_or, slice_set}
use Rattle.std.specs.List.{enumerate_from}
use Rattle.std.proofs.Common.{refl, ap, ◌∙◌, arith, zero-add}
use Rattle.std.proofs.lemmas.List.{get_or-map, get_or-set_same, get_or-set_other, get_or-drop}
use Rattle.std.proofs.lemmas.List.FromFn.{length-enumerate_from, get_or-enumerate_from}
use Rattle.lg_model.specs.declared.column.Bucket.{Bucket}
use Rattle.lg_model.specs.declared.column.Dims.{Dims}
use Rattle.lg_model.specs.Columns.{Cells}
use Rattle.lg_model.specs.Placing.{Shape}
use Rattle.lg_model.specs.Sketch.{Table, IsTable, zero_bucket, bucket_in, bucket_at}
use Rattle.sumax_sketch.specs.SketchState.{with_bucket, with_column}
use Rattle.sketchlet_wire.specs.Spelling.{filled, zeros}

row_with : (j : ℕ) (bs : List Bucket) (t : Table) (i : ℕ) → i < length t → slice_index_or (with_column j bs t) i [] ≡ slice_set (slice_index_or t i []) j (bucket_in bs i)
row_with j bs t i h =
    let inside : i < length (enumerate_from 0 t) = rw length-enumerate_from h in
    get_or-map (with_bucket j bs) (enumerate_from 0 t) i (0, []) [] inside
    ∙ ap (with_bucket j bs) (get_or-enumerate_from 0 t i (0, []) h ∙ ap (λ n. (n, slice_index_or t i [])) (zero-add i))

-- the bucket that was set
pub set_here : (shape : Shape) (j : ℕ) (bs : List Bucket) (t : Table) (i : ℕ) → IsTable shape t → i < shape.rows → j < shape.width → bucket_at (with_column j bs t) i j ≡ bucket_in bs i
set_here shape j bs t i h low at =
    let rows = h.rows in
    let width = h.width i low in
    ap (λ (row : List Bucket). bucket_in row j) (row_with j bs t i (omega (arith, low, rows)))
    ∙ get_or-set_same (slice_index_or t i []) j (bucket_in bs i) zero_bucket (omega (arith, at, width))

-- the others
pub set_there : (shape : Shape) (j : ℕ) (bs : List Bucket) (t : Table) (i k : ℕ) → IsTable shape t → i < shape.rows → k ≢ j → bucket_at (with_column j bs t) i k ≡ bucket_at t i k
set_there shape j bs t i k h low apart =
    let rows = h.rows in
    ap (λ (row : List Bucket). bucket_in row k) (row_with j bs t i (omega (arith, low, rows)))
    ∙ get_or-set_other (slice_index_or t i []) j k (bucket_in bs i) zero_bucket apart

-- a column's own rows in eight buckets
all_zero : (n k : ℕ) → slice_index_or (replicate n zero_bucket) k zero_bucket ≡ zero_bucket
all_zero zero k = refl
all_zero (suc n) zero = refl
all_zero (suc n) (suc k) = all_zero n k

before_zeros : (bs rest : List Bucket) → ((k : ℕ) → slice_index_or rest k zero_bucket ≡ zero_bucket) → (i : ℕ) → slice_index_or (bs ++ rest) i zero_bucket ≡ slice_index_or bs i zero_bucket
before_zeros [] rest h i = h i
before_zeros (b ∷ bs) rest h zero = refl
before_zeros (b ∷ bs) rest h (suc i) = before_zeros bs rest h i

pub bucket_filled : (dims : Dims) (cells : Cells) (i : ℕ) → bucket_in (filled dims cells) i ≡ bucket_in cells.buckets i
bucket_filled dims cells i = before_zeros cells.buckets (drop dims.rows zeros) (λ k. get_or-drop dims.rows zeros k zero_bucket ∙ all_zero 8 (dims.rows + k)) i

pub some_and : {X : Type 0} (o : Option X) (P Q : X → Type 0) → IsSomeAnd o P → ((x : X) → P x → Q x) → IsSomeAnd o Q
some_and None P Q h f = h
some_and (Some x) P Q h f = f x h

pub same_or_less : (j k : ℕ) → j < k + 1 → j ≢ k → j < k
same_or_less j k low apart = omega (arith, low, apart)
