-- An answer isn't below the truth.
use Rattle.std.specs.Prelude.{◌≡◌, ◌≢◌, ℕ, zero, suc, ◌+◌, ◌<◌, ◌≤◌, ◌==◌, Bool, true, false, cond, List, [], ◌∷◌, map, length, fold, min, max, slice_index, slice_index_or, replicate, All, ◌⊎◌, Option, Some, None, IfSome}
use Rattle.std.specs.List.{filter_map, range_with_len}
use Rattle.std.specs.Option.{option_map}
use Rattle.std.proofs.Common.{refl, sym, ap, ◌∙◌, subst, arith, inl, inr}
use Rattle.std.proofs.lemmas.List.{get_or-map, length-replicate, get_or-replicate}
use Rattle.std.proofs.lemmas.List.Elements.{All-nil, All-cons, All-head, All-tail, All-map, All-get_or}
use Rattle.std.proofs.lemmas.Bool.Decides.{eqb_tells}
use Rattle.lg_model.specs.declared.column.Bucket.{Bucket}
use Rattle.lg_model.specs.Placing.{Shape, place}
use Rattle.lg_model.specs.Scenario.{Scenario}
use Rattle.lg_model.specs.Trace.{Observation, seen, sum_of, most_of}
use Rattle.lg_model.specs.Sketch.{Table, IsTable, bucket_in, bucket_at, zero_bucket, zero_table, raise_by, table_of, frozen, frozen_cells}
use Rattle.lg_model.specs.Columns.{Cells}
use Rattle.lg_model.specs.declared.limits.TheConstants.{LAST_BYTES, LAST_DELAY}
use Rattle.lg_model.specs.Bound.{IsBound, IsLow, IsAtLeast, Agrees, IsTrueAnswer, LawOfTheAnswer}
use Rattle.lg_model.specs.Answer.{Look, value_of, known, known_at, answer}
use Rattle.lg_model.specs.declared.answer.Value.{Value}
use Rattle.lg_model.specs.declared.answer.Value.TheVariants.{Unknown, AtMost, Saturated}
use Rattle.flow_key.specs.declared.key.FlowKey.{FlowKey}
use Rattle.lg_model.proofs.Bounding.{bound, IsTable-raise, at}
use Rattle.lg_model.proofs.LowCounters.{limits, low_in}

-- between the truth, up to the limit, and the limit
abbrev Between : (limit t x : ℕ) → Type 0
Between limit t x = (min limit t ≤ x) × (x ≤ limit)

least_between : (limit t a : ℕ) (xs : List ℕ) → Between limit t a → All (Between limit t) xs → Between limit t (fold min a xs)
least_between limit t a [] h all = h
least_between limit t a (x ∷ xs) h all =
    let first : Between limit t x = All-head (Between limit t) x xs all in
    least_between limit t (min a x) xs (omega arith, omega arith) (All-tail (Between limit t) x xs all)

-- the value of such counters isn't below the truth
value_above : (limit t : ℕ) (xs : List ℕ) → All (Between limit t) xs → IsAtLeast (value_of limit xs) t
value_above limit t [] all = tt
value_above limit t (x ∷ xs) all =
    let least : Between limit t (fold min x xs) = least_between limit t x xs (All-head (Between limit t) x xs all) (All-tail (Between limit t) x xs all) in
    elim (eqb_tells (fold min x xs) limit) [
      | inl same ↦ rw same.0 tt
      | inr other ↦ rw other.0 (let ne = other.1 in omega arith)
    ]

-- a known bucket stands between
record IsKnown (sum most : ℕ) (b : Bucket) : Type 0 where
  bytes : Between LAST_BYTES sum b.bytes
  delay : Between LAST_DELAY most b.delay

kept : {X Y : Type 0} (P : Y → Type 0) (h : X → Option Y) (xs : List X) → All (λ x. IfSome (h x) P) xs → All P (filter_map h xs)
kept P h [] all = All-nil P
kept P h (x ∷ xs) all =
    let first : IfSome (h x) P = All-head (λ x. IfSome (h x) P) x xs all in
    let rest : All P (filter_map h xs) = kept P h xs (All-tail (λ x. IfSome (h x) P) x xs all) in
    (elim (h x) as (λ o. IfSome o P → All P (Rattle.std.specs.List.cons_option o (filter_map h xs))) [
      | None ↦ λ q. rest
      | Some y ↦ λ q. All-cons P y (filter_map h xs) q rest
    ]) first

ranged : (P : ℕ → Type 0) (a n : ℕ) → ((i : ℕ) → a ≤ i → i < a + n → P i) → All P (range_with_len a n)
ranged P a zero each = All-nil P
ranged P a (suc n) each = All-cons P a (range_with_len (a + 1) n) (each a (omega arith) (omega arith)) (ranged P (a + 1) n (λ i low high. each i (omega arith) (omega arith)))

fold_table : (shape : Shape) (xs : List Observation) (t : Table) → IsTable shape t → IsTable shape (fold (raise_by shape) t xs)
fold_table shape [] t is = is
fold_table shape (x ∷ xs) t is = fold_table shape xs (raise_by shape t x) (IsTable-raise shape (at shape x.key) x.size x.delay t is)

pub table_is : (shape : Shape) (xs : List Observation) → IsTable shape (table_of shape xs)
table_is shape xs = fold_table shape xs (zero_table shape) (record {
  rows = length-replicate shape.rows (replicate shape.width zero_bucket);
  width = λ i h. rw (get_or-replicate shape.rows i (replicate shape.width zero_bucket) [] h) (length-replicate shape.width zero_bucket);
})

-- the bucket of a row in a column of a table
in_column : (w : Scenario) (s e i j : ℕ) → i < w.shape.rows → bucket_in (frozen_cells w s e j).buckets i ≡ bucket_at (frozen w s e) i j
in_column w s e i j h =
    let is : IsTable w.shape (frozen w s e) = table_is w.shape (seen w s e) in
    get_or-map (λ (row : List Bucket). bucket_in row j) (frozen w s e) i [] zero_bucket (subst (λ n. i < n) (sym is.rows) h)

all_known : (look : Look) (w : Scenario) (name s e : ℕ) (f : FlowKey) → 0 < w.shape.width → Agrees look w name s e →
    All (IsKnown (sum_of (seen w s e) f) (most_of (seen w s e) f)) (known look w.shape name e f)
all_known look w name s e f wide agrees =
    let P : Bucket → Type 0 = IsKnown (sum_of (seen w s e) f) (most_of (seen w s e) f) in
    kept P (known_at look w.shape name e f) (range_with_len 0 w.shape.rows) (ranged (λ i. IfSome (known_at look w.shape name e f i) P) 0 w.shape.rows (λ i low high.
    let j = place w.shape f i in
    let inside : i < w.shape.rows = omega arith in
    let is : IsTable w.shape (frozen w s e) = table_is w.shape (seen w s e) in
    let above : IsBound w.shape (seen w s e) f i = bound w.shape (seen w s e) f i inside wide in
    let below : IsLow (bucket_at (frozen w s e) i j) = low_in _ j (All-get_or (All IsLow) (frozen w s e) i [] (subst (λ n. i < n) (sym is.rows) inside) (limits w.shape (seen w s e))) in
    let fits : P (bucket_at (frozen w s e) i j) = record { bytes = (above.bytes, below.bytes); delay = (above.delay, below.delay) } in
    (elim (look name e j) as (λ o. IfSome o (λ cells. cells ≡ frozen_cells w s e j) → IfSome (option_map (λ (x : Cells). bucket_in x.buckets i) o) P) [
      | None ↦ λ q. tt
      | Some cells ↦ λ q. subst P (sym (ap (λ (x : Cells). bucket_in x.buckets i) q ∙ in_column w s e i j inside)) fits
    ]) (agrees j)))

known_bytes : (sum most : ℕ) (bs : List Bucket) → All (IsKnown sum most) bs → All (Between LAST_BYTES sum) (map (λ (b : Bucket). b.bytes) bs)
known_bytes sum most [] all = All-nil (Between LAST_BYTES sum)
known_bytes sum most (b ∷ bs) all = All-cons (Between LAST_BYTES sum) b.bytes (map (λ (b : Bucket). b.bytes) bs) (All-head (IsKnown sum most) b bs all).bytes (known_bytes sum most bs (All-tail (IsKnown sum most) b bs all))

known_delay : (sum most : ℕ) (bs : List Bucket) → All (IsKnown sum most) bs → All (Between LAST_DELAY most) (map (λ (b : Bucket). b.delay) bs)
known_delay sum most [] all = All-nil (Between LAST_DELAY most)
known_delay sum most (b ∷ bs) all = All-cons (Between LAST_DELAY most) b.delay (map (λ (b : Bucket). b.delay) bs) (All-head (IsKnown sum most) b bs all).delay (known_delay sum most bs (All-tail (IsKnown sum most) b bs all))

pub true_answer : LawOfTheAnswer
true_answer look w name s e f wide agrees =
    let sum = sum_of (seen w s e) f in
    let most = most_of (seen w s e) f in
    let rows = known look w.shape name e f in
    let all : All (IsKnown sum most) rows = all_known look w name s e f wide agrees in
    record {
      bytes = value_above LAST_BYTES sum (map (λ (b : Bucket). b.bytes) rows) (known_bytes sum most rows all);
      delay = value_above LAST_DELAY most (map (λ (b : Bucket). b.delay) rows) (known_delay sum most rows all);
    }
