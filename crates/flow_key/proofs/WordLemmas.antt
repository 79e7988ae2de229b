-- Cutting a text at a byte, and the value of digits.
use Rattle.std.proofs.Common.{◌≡◌, ℕ, suc, ◌+◌, ◌-◌, ◌*◌, ◌<◌, ◌≤◌, Bool, true, false, cond, ltb, leb, List, [], ◌∷◌, length, get_or, take, drop, Option, Some, None, refl, subst, arith, rules, lit≤}
use Rattle.std.specs.List.{slice_split, position, position_or_len, list_all}
use Rattle.std.specs.Char.{is_ascii_digit}
use Rattle.std.specs.Int.{IsInRange}
use Rattle.std.specs.Str.Parse.{digits_value}
use Rattle.std.proofs.lemmas.Bool.{ltb-true, ltb-false, le-leb}
use Rattle.std.proofs.lemmas.Option.{cond_some}
use Rattle.std.proofs.lemmas.Str.{digit_value_digit}
use Rattle.std.proofs.lemmas.Str.Parse.{IsNumeralModel, numerals_by_value, digits_value-take-le}
use Rattle.std.proofs.lemmas.Int.Digits.{digits_value_more}
use Rattle.std.proofs.lemmas.List.Folds.{list_all_more}
use Rattle.std.proofs.lemmas.List.Splits.{slice_split_first, slice_split-cons_no}
use Rattle.flow_key.specs.Words.{value_to}

pub split_some : (p : ℕ → Bool) (xs : List ℕ) (i : ℕ) → position p xs ≡ Some i → slice_split p xs ≡ take i xs ∷ slice_split p (drop (i + 1) xs)
split_some p xs i h =
    let is = cond_some (ltb (position_or_len p xs) (length xs)) (position_or_len p xs) i h in
    let lt : position_or_len p xs < length xs = ltb-true _ _ is.0 in
    subst (λ (k : ℕ). slice_split p xs ≡ take k xs ∷ slice_split p (drop (k + 1) xs)) is.1 (slice_split_first p xs 0 lt)

past_step : (p : ℕ → Bool) (x : ℕ) (xs : List ℕ) (b : Bool) → p x ≡ b → (length xs ≤ position_or_len p xs → slice_split p xs ≡ xs ∷ []) → length (x ∷ xs) ≤ position_or_len p (x ∷ xs) → slice_split p (x ∷ xs) ≡ (x ∷ xs) ∷ []
past_step p x xs true e ih h = let k : suc (length xs) ≤ 0 = rw e at h in absurd (omega arith)
past_step p x xs false e ih h =
    let k = rw e at h in
    let m : length xs ≤ position_or_len p xs = omega arith in
    rw (slice_split-cons_no p x xs e, ih m) refl

pub past : (p : ℕ → Bool) (xs : List ℕ) → length xs ≤ position_or_len p xs → slice_split p xs ≡ xs ∷ []
past p [] h = refl
past p (x ∷ xs) h = past_step p x xs (p x) refl (past p xs) h

cond_none : {A : Type 0} (b : Bool) (x : A) → cond b (Some x) None ≡ None → b ≡ false
cond_none true x e = absurd cc
cond_none false x e = refl

pub split_none : (p : ℕ → Bool) (xs : List ℕ) → position p xs ≡ None → slice_split p xs ≡ xs ∷ []
split_none p xs h = past p xs (ltb-false _ _ (cond_none (ltb (position_or_len p xs) (length xs)) (position_or_len p xs) h))

pub own : IsNumeralModel (λ ds. list_all is_ascii_digit ds ≡ true) (digits_value 10)
own = numerals_by_value _ (search rules)

pub digit_here : (b : ℕ) → is_ascii_digit b ≡ true → IsInRange 48 57 b
digit_here b e = grind arith

-- the value of one more digit
pub value_more : (ds : List ℕ) (i : ℕ) → i < length ds → is_ascii_digit (get_or ds i 0) ≡ true → digits_value 10 (take (i + 1) ds) ≡ digits_value 10 (take i ds) * 10 + (get_or ds i 0 - 48)
value_more ds i lt here =
    let d = digit_here (get_or ds i 0) here in
    omega (arith, digits_value_more 10 ds i lt, digit_value_digit (get_or ds i 0) d, d.0)

-- one more digit
pub digits_more : (ds : List ℕ) (i : ℕ) → i < length ds → list_all is_ascii_digit (take i ds) ≡ true → is_ascii_digit (get_or ds i 0) ≡ true → list_all is_ascii_digit (take (i + 1) ds) ≡ true
digits_more ds i lt before here = rw (list_all_more is_ascii_digit ds i 0 lt, before) here

-- a word whose front is worth more than most, if it is of digits, writes no number of at most most
pub too_much : (most : ℕ) (ds : List ℕ) (i : ℕ) → most < digits_value 10 (take i ds) → None ≡ cond (list_all is_ascii_digit ds) (value_to most ds) None
unfolding value_to
too_much most ds i more =
    let le : digits_value 10 (take i ds) ≤ digits_value 10 ds = digits_value-take-le 10 ds i (lit≤ tt) in
    let no : leb (digits_value 10 ds) most ≡ false = grind arith in
    rw no (nothing (list_all is_ascii_digit ds))
  where
    nothing : (b : Bool) → ◌≡◌ {A = Option ℕ} None (cond b None None)
    nothing true = refl
    nothing false = refl

pub just : (most : ℕ) (ds : List ℕ) (n : ℕ) → list_all is_ascii_digit ds ≡ true → n ≡ digits_value 10 ds → n ≤ most → Some n ≡ cond (list_all is_ascii_digit ds) (value_to most ds) None
unfolding value_to
just most ds n all is le =
    let yes : leb (digits_value 10 ds) most ≡ true = le-leb _ _ (omega arith) in
    rw (all, yes, is) refl
