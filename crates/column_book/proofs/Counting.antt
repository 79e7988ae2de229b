-- How many kept columns are of a switch and epoch.
use Rattle.std.specs.Prelude.{◌≡◌, ℕ, zero, suc, ◌+◌, ◌<◌, ◌≤◌, ◌==◌, Bool, true, false, ◌&&◌, ◌||◌, cond, List, [], ◌∷◌, map, filter, length, is_some}
use Rattle.std.specs.List.{list_any, AllByRecursion, IsDistinct}
use Rattle.std.proofs.Common.{refl, sym, ap, ◌∙◌, subst, arith, inl, inr}
use Rattle.std.proofs.lemmas.Bool.Decides.{eqb_tells}
use Rattle.std.proofs.lemmas.Map.Keys.{IsDistinct-head, IsDistinct-tail}
use Rattle.lg_model.specs.declared.column.Dims.{Dims}
use Rattle.lg_model.specs.declared.column.Key.{Key}
use Rattle.lg_model.specs.Columns.{Column}
use Rattle.sketchlet_wire.specs.Uploads.{same_column_key}
use Rattle.column_book.specs.declared.head.Row.{Row}
use Rattle.column_book.specs.Blocks.{Made, kept_at}
use Rattle.column_book.specs.Entries.{is_of, known_of}
use Rattle.column_book.specs.Kept.{Shelf, shelf, column_under, entries_of, IsKept}
use Rattle.column_book.specs.Tally.{sum_below, bit, key_at, tally}
use Rattle.column_book.proofs.Keys.{one_key}
use Rattle.column_book.proofs.Cuts.{columns_kept}

abbrev of_key : (s e : ℕ) → Key → Bool
of_key s e k = s == k.switch && e == k.epoch

sum_same : (f g : ℕ → ℕ) → ((j : ℕ) → f j ≡ g j) → (n : ℕ) → sum_below f n ≡ sum_below g n
sum_same f g h zero = refl
sum_same f g h (suc n) = λ i. sum_same f g h n i + h n i

sum_zero : (f : ℕ → ℕ) (n : ℕ) → ((j : ℕ) → j < n → f j ≡ 0) → sum_below f n ≡ 0
sum_zero f zero h = refl
sum_zero f (suc n) h = let rest = sum_zero f n (λ j low. h j (omega (arith, low))) in let last = h n (omega arith) in omega (arith, rest, last)

sum_both : (f g : ℕ → ℕ) (n : ℕ) → sum_below (λ j. f j + g j) n ≡ sum_below f n + sum_below g n
sum_both f g zero = refl
sum_both f g (suc n) = let rest = sum_both f g n in omega (arith, rest)

sum_one : (i n : ℕ) → i < n → sum_below (λ j. bit (j == i)) n ≡ 1
sum_one i zero h = absurd (omega (arith, h))
sum_one i (suc n) h = elim (eqb_tells n i) [
  | inl same ↦ let none = sum_zero (λ j. bit (j == i)) n (λ j low. elim (eqb_tells j i) [
    | inl here ↦ let a = here.1 in let b = same.1 in absurd (omega (arith, a, b, low))
    | inr other ↦ ap bit other.0
  ]) in let last = ap bit same.0 in omega (arith, none, last)
  | inr other ↦ let apart = other.1 in let rest = sum_one i n (omega (arith, h, apart)) in let last = ap bit other.0 in omega (arith, rest, last)
]

sum_key : (s e n : ℕ) (k : Key) → k.index < n → sum_below (λ j. bit (same_column_key (key_at s e j) k)) n ≡ bit (of_key s e k)
sum_key s e n k h = (elim (s == k.switch) as (λ a. sum_below (λ j. bit (a && (e == k.epoch && j == k.index))) n ≡ bit (a && e == k.epoch)) [
  | true ↦ (elim (e == k.epoch) as (λ b. sum_below (λ j. bit (b && j == k.index)) n ≡ bit b) [
    | true ↦ sum_one k.index n h
    | false ↦ sum_zero (λ j. 0) n (λ j low. refl)
  ])
  | false ↦ sum_zero (λ j. 0) n (λ j low. refl)
])

none_of : (k : Key) (ks : List Key) → AllByRecursion (λ (q : Key). same_column_key k q ≡ false) ks → list_any (same_column_key k) ks ≡ false
none_of k [] all = refl
none_of k (q ∷ qs) all = rw (all.0) (none_of k qs all.1)

bit_or : (q k : Key) (ks : List Key) → AllByRecursion (λ (x : Key). same_column_key k x ≡ false) ks → bit (same_column_key q k || list_any (same_column_key q) ks) ≡ bit (same_column_key q k) + bit (list_any (same_column_key q) ks)
bit_or q k ks apart = (elim (same_column_key q k) as (λ b. same_column_key q k ≡ b → bit (b || list_any (same_column_key q) ks) ≡ bit b + bit (list_any (same_column_key q) ks)) [
  | true ↦ λ h. let none : list_any (same_column_key q) ks ≡ false = subst (λ (x : Key). list_any (same_column_key x) ks ≡ false) (sym (one_key q k h)) (none_of k ks apart) in
      let last = ap bit none in omega (arith, last)
  | false ↦ λ h. omega arith
]) refl

pub tally_keys : (s e n : ℕ) (keys : List Key) → IsDistinct same_column_key keys → AllByRecursion (λ (k : Key). k.index < n) keys →
    sum_below (λ j. bit (list_any (same_column_key (key_at s e j)) keys)) n ≡ length (filter (of_key s e) keys)
tally_keys s e n [] apart inside = sum_zero (λ j. 0) n (λ j low. refl)
tally_keys s e n (k ∷ ks) apart inside =
    let rest = tally_keys s e n ks (IsDistinct-tail same_column_key k ks apart) inside.1 in
    let split = sum_same (λ j. bit (same_column_key (key_at s e j) k || list_any (same_column_key (key_at s e j)) ks)) (λ j. bit (same_column_key (key_at s e j) k) + bit (list_any (same_column_key (key_at s e j)) ks))
    (λ j. bit_or (key_at s e j) k ks (IsDistinct-head same_column_key k ks apart)) n in
    let both = sum_both (λ j. bit (same_column_key (key_at s e j) k)) (λ j. bit (list_any (same_column_key (key_at s e j)) ks)) n in
    let one = sum_key s e n k inside.0 in
    split ∙ both ∙ (λ i. one i + rest i) ∙ (elim (of_key s e k) as (λ b. bit b + length (filter (of_key s e) ks) ≡ length (cond b (k ∷ filter (of_key s e) ks) (filter (of_key s e) ks))) [
      | true ↦ omega arith
      | false ↦ omega arith
    ])

filter_under : (s e : ℕ) (dims : Dims) (look : Shelf) (keys : List Key) → length (filter (is_of s e) (map (column_under dims look) keys)) ≡ length (filter (of_key s e) keys)
filter_under s e dims look [] = refl
filter_under s e dims look (k ∷ ks) = (elim (of_key s e k) as (λ b. length (cond b (column_under dims look k ∷ filter (is_of s e) (map (column_under dims look) ks)) (filter (is_of s e) (map (column_under dims look) ks))) ≡ length (cond b (k ∷ filter (of_key s e) ks) (filter (of_key s e) ks))) [
  | true ↦ ap suc (filter_under s e dims look ks)
  | false ↦ filter_under s e dims look ks
])

-- what the blocks hold below the width is what the entries have
pub tally_known : {room a b : ℕ} {ready : List Key} (s e width : ℕ) (dims : Dims) (es : Made) (keys : List Key) (rows : List Row) → IsKept width room es keys rows ready a b →
    tally es s e width ≡ known_of s e (entries_of dims (shelf dims.rows es) keys rows)
tally_known s e width dims es keys rows h =
    sum_same (λ j. bit (is_some (kept_at es (key_at s e j)))) (λ j. bit (list_any (same_column_key (key_at s e j)) keys)) (λ j. ap bit (h.known.there (key_at s e j))) width
    ∙ tally_keys s e width keys h.known.apart h.inside
    ∙ sym (ap (λ (cs : List Column). length (filter (is_of s e) cs)) (columns_kept dims (shelf dims.rows es) keys rows h.cut) ∙ filter_under s e dims (shelf dims.rows es) keys)

few_below : (p : ℕ → Bool) (n : ℕ) → sum_below (λ j. bit (p j)) n ≤ n
few_below p zero = omega arith
few_below p (suc n) = let rest = few_below p n in (elim (p n) as (λ b. sum_below (λ j. bit (p j)) n + bit b ≤ suc n) [
  | true ↦ omega (arith, rest)
  | false ↦ omega (arith, rest)
])

-- where as many are as could be, each is
sum_full : (p : ℕ → Bool) (n : ℕ) → sum_below (λ j. bit (p j)) n ≡ n → (j : ℕ) → j < n → p j ≡ true
sum_full p zero h j low = absurd (omega (arith, low))
sum_full p (suc n) h j low =
    (elim (p n) as (λ b. p n ≡ b → sum_below (λ i. bit (p i)) n + bit b ≡ suc n → p j ≡ true) [
      | true ↦ λ last g. elim (eqb_tells j n) [
        | inl same ↦ ap p same.1 ∙ last
        | inr other ↦ let apart = other.1 in sum_full p n (omega (arith, g)) j (omega (arith, low, apart))
      ]
      | false ↦ λ last g. let rest = few_below p n in absurd (omega (arith, rest, g))
    ]) refl h

pub tally_full : (es : Made) (s e n : ℕ) → tally es s e n ≡ n → (j : ℕ) → j < n → is_some (kept_at es (key_at s e j)) ≡ true
tally_full es s e n h = sum_full (λ j. is_some (kept_at es (key_at s e j))) n h
