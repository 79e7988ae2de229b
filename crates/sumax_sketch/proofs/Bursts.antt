-- Several packets of one flow, of one size and one delay, are as one packet of all their bytes.
use Rattle.std.specs.Prelude.{◌≡◌, ℕ, zero, suc, ◌+◌, ◌*◌, ◌<◌, ◌≤◌, List, [], ◌∷◌, length, take, fold, min, max, slice_set}
use Rattle.std.specs.Fn.{iterate}
use Rattle.std.proofs.Common.{refl, sym, ap, ◌∙◌, subst, arith}
use Rattle.std.proofs.Math.Nat.{mul-suc}
use Rattle.lg_model.specs.Placing.{Shape}
use Rattle.lg_model.specs.declared.column.Bucket.{Bucket}
use Rattle.lg_model.specs.declared.limits.TheConstants.{LAST_BYTES, LAST_DELAY}
use Rattle.lg_model.specs.Sketch.{Table, IsTable, bucket_at, sums_at, least_to, raised, raise}
use Rattle.lg_model.proofs.Raising.{row_of, row_raised, bucket_raised_same, length-raise, width-raise, least_next, raise_by_rows}

-- a place that is set again
set_again : {X : Type 0} (xs : List X) (i : ℕ) (x y : X) → slice_set (slice_set xs i x) i y ≡ slice_set xs i y
set_again [] i x y = refl
set_again (z ∷ xs) zero x y = refl
set_again (z ∷ xs) (suc i) x y = ap (λ ys. z ∷ ys) (set_again xs i x y)

-- The place of each row is inside it.
abbrev pub AreInside : (ℕ → ℕ) → Table → Type 0
AreInside at t = (i : ℕ) → i < length t → at i < length (row_of t i)

abbrev least_before : (ℕ → ℕ) → Table → ℕ → ℕ
least_before at t i = fold min LAST_BYTES (take i (sums_at at t))

-- one row more, on numbers alone
least_step : (a c l : ℕ) → l ≤ LAST_BYTES →
    min (min LAST_BYTES (a + l)) (max c (min LAST_BYTES (a + min l c))) ≡ min LAST_BYTES (a + min l c)
least_step a c l low = omega (arith, low)

bytes_twice : (a b c l : ℕ) → max (max c (min LAST_BYTES (a + l))) (min LAST_BYTES (b + min LAST_BYTES (a + l))) ≡ max c (min LAST_BYTES ((a + b) + l))
bytes_twice a b c l = omega arith

-- the least old sum rises by the bytes of a packet
least_raised : (at : ℕ → ℕ) (v d : ℕ) (t : Table) → AreInside at t → (i : ℕ) → i ≤ length t →
    (least_before at (raise at v d t) i ≡ min LAST_BYTES (v + least_before at t i)) × (least_before at t i ≤ LAST_BYTES)
least_raised at v d t inside zero h = (omega arith, omega arith)
least_raised at v d t inside (suc i) h =
    let u = raise at v d t in
    let low : i < length t = omega arith in
    let low' : i < length u = omega (arith, length-raise at v d t) in
    let before = least_raised at v d t inside i (omega arith) in
    let c : ℕ = (bucket_at t i (at i)).bytes in
    let next : min (least_before at t i) c ≡ least_to at t i = least_next at t i low in
    let one : least_before at t (suc i) ≡ least_to at t i = ap (least_before at t) (let e : suc i ≡ i + 1 = omega arith in e) in
    let one' : least_before at u (suc i) ≡ least_to at u i = ap (least_before at u) (let e : suc i ≡ i + 1 = omega arith in e) in
    let bytes : (bucket_at u i (at i)).bytes ≡ max c (min LAST_BYTES (v + least_to at t i)) =
    ap (λ (b : Bucket). b.bytes) (bucket_raised_same at v d t i low (inside i low)) in
    let next' : min (least_before at u i) (bucket_at u i (at i)).bytes ≡ least_to at u i = least_next at u i low' in
    let is : least_to at u i ≡ min LAST_BYTES (v + least_to at t i) = sym next' ∙ rw (before.0, bytes, ← next) (least_step v c (least_before at t i) before.1) in
    (one' ∙ is ∙ ap (λ (a : ℕ). min LAST_BYTES (v + a)) (sym one), omega (arith, one, next, before.1))

least_to_raised : (at : ℕ → ℕ) (v d : ℕ) (t : Table) → AreInside at t → (i : ℕ) → i < length t → least_to at (raise at v d t) i ≡ min LAST_BYTES (v + least_to at t i)
least_to_raised at v d t inside i h = (least_raised at v d t inside (i + 1) (omega arith)).0

raised_twice : (b : Bucket) (least v w d : ℕ) → raised (raised b least v d) (min LAST_BYTES (v + least)) w d ≡ raised b least (v + w) d
raised_twice b least v w d =
    let delays : max (max b.delay (min d LAST_DELAY)) (min d LAST_DELAY) ≡ max b.delay (min d LAST_DELAY) = omega arith in
    λ i. record { bytes = bytes_twice v w b.bytes least i; delay = delays i }

-- a packet of v bytes and one of w are as one of both
pub raise_twice : (at : ℕ → ℕ) (v w d : ℕ) (t : Table) → AreInside at t → raise at w d (raise at v d t) ≡ raise at (v + w) d t
raise_twice at v w d t inside =
    let u = raise at v d t in
    let len : length u ≡ length t = length-raise at v d t in
    raise_by_rows at (v + w) d t (raise at w d u) (length-raise at w d u ∙ len)
    (λ k h.
    let h' : k < length u = omega (arith, len) in
    let row = row_raised at v d t k h in
    let bucket = bucket_raised_same at v d t k h (inside k h) in
    let least = least_to_raised at v d t inside k h in
    row_raised at w d u k h'
    ∙ ap (λ (b : Bucket). slice_set (row_of u k) (at k) (raised b (least_to at u k) w d)) bucket
    ∙ ap (λ (a : ℕ). slice_set (row_of u k) (at k) (raised (raised (bucket_at t k (at k)) (least_to at t k) v d) a w d)) least
    ∙ ap (λ (b : Bucket). slice_set (row_of u k) (at k) b) (raised_twice (bucket_at t k (at k)) (least_to at t k) v w d)
    ∙ ap (λ (r : List Bucket). slice_set r (at k) (raised (bucket_at t k (at k)) (least_to at t k) (v + w) d)) row
    ∙ set_again (row_of t k) (at k) _ _)

-- more bytes than the last value of a sum are as many as that
pub raise_capped : (at : ℕ → ℕ) (v d : ℕ) (t : Table) → raise at (min v LAST_BYTES) d t ≡ raise at v d t
raise_capped at v d t =
    let bytes : (l : ℕ) → min LAST_BYTES (min v LAST_BYTES + l) ≡ min LAST_BYTES (v + l) = λ l. omega arith in
    raise_by_rows at v d t (raise at (min v LAST_BYTES) d t) (length-raise at (min v LAST_BYTES) d t)
    (λ k h. row_raised at (min v LAST_BYTES) d t k h
    ∙ (λ i. slice_set (row_of t k) (at k) (record {
      bytes = max (bucket_at t k (at k)).bytes (bytes (least_to at t k) i);
      delay = max (bucket_at t k (at k)).delay (min d LAST_DELAY);
    })))

inside_raised : (at : ℕ → ℕ) (v d : ℕ) (t : Table) → AreInside at t → AreInside at (raise at v d t)
inside_raised at v d t inside i h =
    let low : i < length t = omega (arith, length-raise at v d t) in
    subst (λ (n : ℕ). at i < n) (sym (width-raise at v d t i low)) (inside i low)

-- a burst of packets is as one of all their bytes
pub raise_burst : (at : ℕ → ℕ) (v d n : ℕ) (t : Table) → AreInside at t → iterate (raise at v d) (suc n) t ≡ raise at (v * suc n) d t
raise_burst at v d zero t inside = ap (λ (a : ℕ). raise at a d t) (let e : v ≡ v * 1 = omega arith in e)
raise_burst at v d (suc n) t inside =
    raise_burst at v d n (raise at v d t) (inside_raised at v d t inside)
    ∙ raise_twice at v (v * suc n) d t inside
    ∙ ap (λ (a : ℕ). raise at a d t) (let e : v + v * suc n ≡ v * suc (suc n) = (let m = mul-suc v (suc n) in omega (arith, m)) in e)

inside_table : (shape : Shape) (at : ℕ → ℕ) (t : Table) → IsTable shape t → ((i : ℕ) → i < shape.rows → at i < shape.width) → AreInside at t
inside_table shape at t is below i h =
    let low : i < shape.rows = omega (arith, is.rows) in
    subst (λ (n : ℕ). at i < n) (sym (is.width i low)) (below i low)

pub burst_is : (shape : Shape) (at : ℕ → ℕ) (v d n : ℕ) (t : Table) → IsTable shape t → ((i : ℕ) → i < shape.rows → at i < shape.width) → 1 ≤ n →
    raise at (min (v * n) LAST_BYTES) d t ≡ iterate (raise at v d) n t
burst_is shape at v d zero t is below some = absurd (omega arith)
burst_is shape at v d (suc n) t is below some =
    raise_capped at (v * suc n) d t ∙ sym (raise_burst at v d n t (inside_table shape at t is below))
