-- What a packet does to each bucket of a table.
use Rattle.std.specs.Prelude.{◌≡◌, ◌≢◌, ℕ, ◌+◌, ◌<◌, ◌≤◌, ◌⊎◌, List, [], ◌∷◌, length, take, map, fold, min, max, slice_index_or, slice_set, replicate}
use Rattle.std.specs.List.{enumerate_from, All, AllByRecursion}
use Rattle.std.proofs.Common.{refl, sym, ap, ◌∙◌, subst, zero-add, arith, inl, inr, ext_get_or}
use Rattle.std.proofs.lemmas.List.Sums.{fold_more}
use Rattle.std.proofs.lemmas.List.{get_or-map, length-map, get_or-set_same, get_or-set_other, length-set}
use Rattle.std.proofs.lemmas.List.FromFn.{length-enumerate_from, get_or-enumerate_from}
use Rattle.std.proofs.lemmas.List.Elements.{All-from_get_or, All-take, recursion_from_All}
use Rattle.std.proofs.lemmas.Bool.Decides.{eqb_tells}
use Rattle.lg_model.specs.Placing.{Shape}
use Rattle.lg_model.specs.declared.column.Bucket.{Bucket}
use Rattle.lg_model.specs.Sketch.{Table, bucket_in, bucket_at, zero_bucket, sum_in, sums_at, least_to, raised, raised_row, raise}
use Rattle.lg_model.specs.declared.limits.TheConstants.{LAST_BYTES}

-- the row of a table
abbrev pub row_of : Table → ℕ → List Bucket
row_of t i = slice_index_or t i []

at_row : {Y : Type 0} (f : ℕ × List Bucket → Y) (t : Table) (i : ℕ) (e : Y) → i < length t → slice_index_or (map f (enumerate_from 0 t)) i e ≡ f (i, row_of t i)
at_row f t i e h =
    let inside : i < length (enumerate_from 0 t) = rw length-enumerate_from h in
    get_or-map f (enumerate_from 0 t) i (0, []) e inside
    ∙ ap f (get_or-enumerate_from 0 t i (0, []) h ∙ ap (λ n. (n, row_of t i)) (zero-add i))

pub row_raised : (at : ℕ → ℕ) (v d : ℕ) (t : Table) (i : ℕ) → i < length t → row_of (raise at v d t) i ≡ raised_row at t v d (i, row_of t i)
row_raised at v d t i h = at_row (raised_row at t v d) t i [] h

pub sum_at : (at : ℕ → ℕ) (t : Table) (i : ℕ) → i < length t → slice_index_or (sums_at at t) i 0 ≡ (bucket_at t i (at i)).bytes
sum_at at t i h = at_row (sum_in at) t i 0 h

pub bucket_raised_same : (at : ℕ → ℕ) (v d : ℕ) (t : Table) (i : ℕ) → i < length t → at i < length (row_of t i) →
    bucket_at (raise at v d t) i (at i) ≡ raised (bucket_at t i (at i)) (least_to at t i) v d
bucket_raised_same at v d t i h inside = ap (λ row. bucket_in row (at i)) (row_raised at v d t i h) ∙ get_or-set_same (row_of t i) (at i) _ zero_bucket inside

pub bucket_raised_other : (at : ℕ → ℕ) (v d : ℕ) (t : Table) (i j : ℕ) → i < length t → j ≢ at i →
    bucket_at (raise at v d t) i j ≡ bucket_at t i j
bucket_raised_other at v d t i j h other = ap (λ row. bucket_in row j) (row_raised at v d t i h) ∙ get_or-set_other (row_of t i) (at i) j _ zero_bucket other

pub length-raise : (at : ℕ → ℕ) (v d : ℕ) (t : Table) → length (raise at v d t) ≡ length t
length-raise at v d t = length-map (enumerate_from 0 t) (raised_row at t v d) ∙ length-enumerate_from 0 t

pub width-raise : (at : ℕ → ℕ) (v d : ℕ) (t : Table) (i : ℕ) → i < length t → length (row_of (raise at v d t) i) ≡ length (row_of t i)
width-raise at v d t i h = ap length (row_raised at v d t i h) ∙ length-set (row_of t i) (at i) _

-- the least of numbers that are not below m is not
least_is_above : (m a : ℕ) (xs : List ℕ) → m ≤ a → AllByRecursion (λ x. m ≤ x) xs → m ≤ fold min a xs
least_is_above m a [] h all = h
least_is_above m a (x ∷ xs) h all = let first = all.0 in least_is_above m (min a x) xs (omega arith) all.1

pub least_to_is_above : (at : ℕ → ℕ) (t : Table) (i m : ℕ) → m ≤ LAST_BYTES → ((k : ℕ) → k < length t → m ≤ (bucket_at t k (at k)).bytes) → m ≤ least_to at t i
least_to_is_above at t i m small each =
    let P : ℕ → Type 0 = λ x. m ≤ x in
    let len : length (sums_at at t) ≡ length t = length-map (enumerate_from 0 t) (sum_in at) ∙ length-enumerate_from 0 t in
    let sums : All P (sums_at at t) = All-from_get_or P (sums_at at t) 0 (λ k h. let in_t : k < length t = omega arith in subst P (sym (sum_at at t k in_t)) (each k in_t)) in
    least_is_above m LAST_BYTES (take (i + 1) (sums_at at t)) small (recursion_from_All P _ (All-take P (i + 1) _ sums))

-- the least old sum up to a row, from that up to the row before
pub least_next : (at : ℕ → ℕ) (t : Table) (i : ℕ) → i < length t →
    min (fold min LAST_BYTES (take i (sums_at at t))) (bucket_at t i (at i)).bytes ≡ least_to at t i
least_next at t i h =
    let len : length (sums_at at t) ≡ length t = length-map (enumerate_from 0 t) (sum_in at) ∙ length-enumerate_from 0 t in
    let inside : i < length (sums_at at t) = omega arith in
    ap (min (fold min LAST_BYTES (take i (sums_at at t)))) (sym (sum_at at t i h)) ∙ sym (fold_more min LAST_BYTES (sums_at at t) i 0 inside)

-- a table whose rows are all raised is the table after the packet
pub raise_by_rows : (at : ℕ → ℕ) (v d : ℕ) (t u : Table) → length u ≡ length t →
    ((k : ℕ) → k < length t → row_of u k ≡ raised_row at t v d (k, row_of t k)) → u ≡ raise at v d t
raise_by_rows at v d t u len each =
    ext_get_or [] u (raise at v d t) (len ∙ sym (length-raise at v d t))
    (λ k h. let in_t : k < length t = omega (arith, len) in each k in_t ∙ sym (row_raised at v d t k in_t))

-- one row's step: the least sum handed on, and the row
pub step_at : (at : ℕ → ℕ) (v d : ℕ) (t : Table) (i place running least : ℕ) (row new : List Bucket) → i < length t → place ≡ at i → row ≡ row_of t i →
    running ≡ fold min LAST_BYTES (take i (sums_at at t)) → least ≡ min running (bucket_in row place).bytes → new ≡ slice_set row place (raised (bucket_in row place) least v d) →
    (least ≡ least_to at t i) × (new ≡ raised_row at t v d (i, row_of t i))
step_at at v d t i place running least row new h place_is row_is running_is least_is new_is =
    let sum : least ≡ least_to at t i = least_is ∙ rw (running_is, row_is, place_is) (least_next at t i h) in
    (sum, new_is ∙ rw (sum, row_is, place_is) refl)
