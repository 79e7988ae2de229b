-- Positions in lists of lists, places after an append, and fronts of lists.
use Rattle.std.specs.Prelude.{◌≡◌, ℕ, zero, suc, ◌+◌, ◌-◌, ◌<◌, ◌≤◌, List, [], ◌∷◌, ◌++◌, length, map, take, All, Contains, slice_index_or}
use Rattle.std.specs.List.{flat_map, slice_get}
use Rattle.std.proofs.Common.{refl, ap, ◌∙◌, arith, inl, inr, length-append}
use Rattle.std.proofs.lemmas.List.{length-map, get_or-map, get_or_append_left, get_or-append_right}
use Rattle.std.proofs.lemmas.List.Elements.{All-nil, All-head, All-tail, All-append, Contains-append_left, Contains-append_right}
use Rattle.std.proofs.lemmas.Bool.{cases_lt}
use mathlib.Core.List.{IsPrefix}

-- ---- lists of lists

-- how many come before those of position h
abbrev pub offset : {X Y : Type 0} (f : X → List Y) (xs : List X) (h : ℕ) → ℕ
offset f xs h = length (flat_map f (take h xs))

pub record IsThere {X Y : Type 0} (f : X → List Y) (xs : List X) (h q : ℕ) (d : X) (e : Y) : Type 0 where
  pub inside : offset f xs h + q < length (flat_map f xs)
  pub is : slice_index_or (flat_map f xs) (offset f xs h + q) e ≡ slice_index_or (f (slice_index_or xs h d)) q e

pub flat_at : {X Y : Type 0} (f : X → List Y) (xs : List X) (h q : ℕ) (d : X) (e : Y) → h < length xs → q < length (f (slice_index_or xs h d)) →
    IsThere f xs h q d e
flat_at f [] h q d e low inside = absurd (omega (arith, low))
flat_at f (x ∷ xs) zero q d e low inside =
    let none : 0 + q ≡ q = omega arith in
    record {
      inside = omega (arith, inside, length-append (f x) (flat_map f xs));
      is = ap (λ n. slice_index_or (f x ++ flat_map f xs) n e) none ∙ get_or_append_left (f x) (flat_map f xs) e q inside;
    }
flat_at f (x ∷ xs) (suc h) q d e low inside =
    let rest = flat_at f xs h q d e (omega (arith, low)) inside in
    let there = rest.inside in
    let size = length-append (f x) (flat_map f xs) in
    let place : length (f x ++ flat_map f (take h xs)) + q ≡ length (f x) + (offset f xs h + q) = omega (arith, length-append (f x) (flat_map f (take h xs))) in
    let back : length (f x) + (offset f xs h + q) - length (f x) ≡ offset f xs h + q = omega arith in
    record {
      inside = omega (arith, there, place, size);
      is = ap (λ n. slice_index_or (f x ++ flat_map f xs) n e) place
          ∙ get_or-append_right (f x) (flat_map f xs) (length (f x)) (length (f x) + (offset f xs h + q)) e refl (omega arith)
          ∙ ap (λ n. slice_index_or (flat_map f xs) n e) back ∙ rest.is;
    }

-- where the one at place p comes from
pub record Origin {X Y : Type 0} (f : X → List Y) (xs : List X) (d : X) (p : ℕ) : Type 0 where
  pub at : ℕ
  pub nth : ℕ
  pub inside : at < length xs
  pub low : nth < length (f (slice_index_or xs at d))
  pub is : p ≡ offset f xs at + nth

pub origin : {X Y : Type 0} (f : X → List Y) (xs : List X) (d : X) (p : ℕ) → p < length (flat_map f xs) → Origin f xs d p
origin f [] d p low = absurd (omega (arith, low))
origin f (x ∷ xs) d p low = elim (cases_lt p (length (f x))) as (λ _. Origin f (x ∷ xs) d p) [
  | inl here ↦ record { at = 0; nth = p; inside = omega arith; low = here; is = omega arith }
  | inr past ↦
      let size = length-append (f x) (flat_map f xs) in
      let r = origin f xs d (p - length (f x)) (omega (arith, past, low, size)) in
      let inside = r.inside in
      let is = r.is in
      let before = length-append (f x) (flat_map f (take r.at xs)) in
      record { at = suc r.at; nth = r.nth; inside = omega (arith, inside); low = r.low; is = omega (arith, is, past, before) }
]

pub in_flat : {X Y : Type 0} (f : X → List Y) (xs : List X) (i : ℕ) (d : X) (y : Y) → i < length xs → Contains (f (slice_index_or xs i d)) y →
    Contains (flat_map f xs) y
in_flat f [] i d y low h = absurd (omega (arith, low))
in_flat f (x ∷ xs) zero d y low h = Contains-append_left (f x) (flat_map f xs) y h
in_flat f (x ∷ xs) (suc i) d y low h = Contains-append_right (f x) (flat_map f xs) y (in_flat f xs i d y (omega (arith, low)) h)

pub all_flat : {X Y : Type 0} (P : Y → Type 0) (f : X → List Y) (xs : List X) → All (λ x. All P (f x)) xs → All P (flat_map f xs)
all_flat P f [] all = All-nil P
all_flat P f (x ∷ xs) all = All-append P (f x) (flat_map f xs) (All-head (λ y. All P (f y)) x xs all) (all_flat P f xs (All-tail (λ y. All P (f y)) x xs all))

pub contains_map : {X Y : Type 0} (f : X → Y) (xs : List X) (x : X) → Contains xs x → Contains (map f xs) (f x)
contains_map f xs x h = (h.0, (let low = h.1 in omega (arith, low, length-map xs f)), get_or-map f xs h.0 x (f x) h.1 ∙ ap f h.2)

-- ---- places after an append

pub get_right : {X : Type 0} (xs ys : List X) (i : ℕ) → slice_get (xs ++ ys) (length xs + i) ≡ slice_get ys i
get_right [] ys i = let e : 0 + i ≡ i = omega arith in ap (λ n. slice_get ys n) e
get_right (x ∷ xs) ys i = let e : length (x ∷ xs) + i ≡ suc (length xs + i) = omega arith in ap (λ n. slice_get (x ∷ xs ++ ys) n) e ∙ get_right xs ys i

-- ---- fronts of lists

pub front_length : {X : Type 0} (xs ys : List X) → IsPrefix xs ys → length xs ≤ length ys
front_length xs ys p = let same = ap length p.1 in omega (arith, same, length-append xs p.0)

pub shorter_front : {X : Type 0} (xs ys zs : List X) → IsPrefix xs zs → IsPrefix ys zs → length xs ≤ length ys → IsPrefix xs ys
shorter_front [] ys zs p q le = (ys, refl)
shorter_front (x ∷ xs) [] zs p q le = absurd (omega (arith, le))
shorter_front (x ∷ xs) (y ∷ ys) [] p q le = absurd (cc (p.1))
shorter_front (x ∷ xs) (y ∷ ys) (z ∷ zs) p q le =
    let heads : x ≡ y = cc (p.1, q.1) in
    let rest = shorter_front xs ys zs (p.0, cc (p.1)) (q.0, cc (q.1)) (omega (arith, le)) in
    (rest.0, cc (heads, rest.1))

pub same_rest : {X : Type 0} (xs ys zs : List X) → xs ++ ys ≡ xs ++ zs → ys ≡ zs
same_rest [] ys zs h = h
same_rest (x ∷ xs) ys zs h = same_rest xs ys zs (cc h)
