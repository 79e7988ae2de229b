-- Where the entries of a pass stand in a list that grew from others, and places in lists that are mapped or turned round.
use Rattle.std.specs.Prelude.{◌≡◌, ℕ, zero, suc, ◌+◌, ◌-◌, ◌<◌, ◌≤◌, ◌==◌, Bool, true, false, cond, List, [], ◌∷◌, ◌++◌, length, map, reverse, take, Some}
use Rattle.std.specs.Prelude.{Contains, slice_get, slice_index_or}
use Rattle.std.proofs.Common.{refl, sym, ap, ◌∙◌, subst, arith, inl, inr, append-nil, eq-eqb}
use Rattle.std.proofs.lemmas.Bool.{cases_lt}
use Rattle.std.proofs.lemmas.List.{append_cancel_left, take-append-le, length-reverse, get_or-reverse, map-append}
use Rattle.std.proofs.lemmas.List.Elements.{filter-append, Contains-append_left}
use Rattle.std.proofs.lemmas.Grind.{flat_map-append}
use mathlib.Core.List.{IsPrefix}
use mathlib.Core.Option.{some}
use lib.ListN.{get_elem?}
use Rattle.lg_model.specs.Columns.{Column}
use Rattle.sketchlet_wire.specs.Uploads.{UploadData}
use Rattle.column_book.specs.declared.entry.Entry.{Entry}
use Rattle.column_book.specs.Entries.{records, columns_in, columns_of}
use Rattle.lock_rule.specs.Views.{of}

-- ---- places in a list, two ways

pub elem_is : {X : Type 0} (xs : List X) (i : ℕ) (d : X) → i < length xs → get_elem? xs i ≡ some (slice_index_or xs i d)
elem_is [] i d low = absurd (omega (arith, low))
elem_is (x ∷ xs) zero d low = refl
elem_is (x ∷ xs) (suc i) d low = elem_is xs i d (omega (arith, low))

-- an element of a list stands at a place below its length
pub record IsAt {X : Type 0} (xs : List X) (x : X) : Type 0 where
  pub place : ℕ
  pub low : place < length xs
  pub is : slice_index_or xs place x ≡ x

some_same : {X : Type 0} (x y : X) → some x ≡ some y → x ≡ y
some_same x y e = cc e

elem_there : {X : Type 0} (xs : List X) (i : ℕ) (x : X) → get_elem? xs i ≡ some x → (i < length xs) × (slice_index_or xs i x ≡ x)
elem_there [] i x h = absurd (cc h)
elem_there (y ∷ xs) zero x h = (omega arith, some_same y x h)
elem_there (y ∷ xs) (suc i) x h = let r = elem_there xs i x h in ((let low = r.0 in omega (arith, low)), r.1)

-- places in a list that is turned round
pub in_reverse : {X : Type 0} (xs : List X) (i : ℕ) (d : X) → i < length xs → get_elem? (reverse xs) (length xs - 1 - i) ≡ some (slice_index_or xs i d)
in_reverse xs i d low =
    let size = length-reverse xs in
    let back : length xs - 1 - (length xs - 1 - i) ≡ i = omega (arith, low) in
    elem_is (reverse xs) (length xs - 1 - i) d (omega (arith, low, size))
    ∙ ap (λ x. some x) (get_or-reverse xs (length xs - 1 - i) d (omega (arith, low)) ∙ ap (λ n. slice_index_or xs n d) back)

pub of_reverse : {X : Type 0} (xs : List X) (k : ℕ) (x : X) → get_elem? (reverse xs) k ≡ some x → IsAt xs x
of_reverse xs k x h =
    let r = elem_there (reverse xs) k x h in
    let inside = r.0 in
    let size = length-reverse xs in
    let low : k < length xs = omega (arith, inside, size) in
    record { place = length xs - 1 - k; low = omega (arith, low); is = sym (get_or-reverse xs k x low) ∙ r.1 }

-- ---- places after `map`, `take` and `++`

pub record Mapped {X Y : Type 0} (f : X → Y) (xs : List X) (i : ℕ) (y : Y) : Type 0 where
  pub item : X
  pub is : slice_get xs i ≡ Some item
  pub gives : f item ≡ y

pub get_map : {X Y : Type 0} (f : X → Y) (xs : List X) (i : ℕ) (y : Y) → slice_get (map f xs) i ≡ Some y → Mapped f xs i y
get_map f [] i y h = absurd (cc h)
get_map f (x ∷ xs) zero y h = record { item = x; is = refl; gives = cc h }
get_map f (x ∷ xs) (suc i) y h = let m = get_map f xs i y h in record { item = m.item; is = m.is; gives = m.gives }

pub take_map : {X Y : Type 0} (f : X → Y) (xs : List X) (i : ℕ) → take i (map f xs) ≡ map f (take i xs)
take_map f xs zero = refl
take_map f [] (suc i) = refl
take_map f (x ∷ xs) (suc i) = ap (λ ys. f x ∷ ys) (take_map f xs i)

pub take_right : {X : Type 0} (xs ys : List X) (i : ℕ) → take (length xs + i) (xs ++ ys) ≡ xs ++ take i ys
take_right [] ys i = let e : 0 + i ≡ i = omega arith in ap (λ n. take n ys) e
take_right (x ∷ xs) ys i =
    let e : length (x ∷ xs) + i ≡ suc (length xs + i) = omega arith in
    ap (λ n. take n (x ∷ xs ++ ys)) e ∙ ap (λ zs. x ∷ zs) (take_right xs ys i)

get_front : {X : Type 0} (xs ys : List X) (i : ℕ) → i < length xs → slice_get (xs ++ ys) i ≡ slice_get xs i
get_front [] ys i low = absurd (omega (arith, low))
get_front (x ∷ xs) ys zero low = refl
get_front (x ∷ xs) ys (suc i) low = get_front xs ys i (omega (arith, low))

pub get_past : {X : Type 0} (xs ys : List X) (i : ℕ) → length xs ≤ i → slice_get (xs ++ ys) i ≡ slice_get ys (i - length xs)
get_past [] ys i far = let e : i ≡ i - 0 = omega arith in ap (λ n. slice_get ys n) e
get_past (x ∷ xs) ys zero far = absurd (omega (arith, far))
get_past (x ∷ xs) ys (suc i) far =
    let e : i - length xs ≡ suc i - suc (length xs) = omega arith in
    get_past xs ys i (omega (arith, far)) ∙ ap (λ n. slice_get ys n) e

-- ---- the entries of a pass

-- none stands where none is
not_there : (n : ℕ) (es : List Entry) (i : ℕ) (e : Entry) → of n es ≡ [] → slice_get es i ≡ Some e → e.pass ≡ n → ⊥
not_there n [] i e none is own = absurd (cc is)
not_there n (x ∷ es) zero e none is own =
    let same : x ≡ e = cc is in
    let t : (x.pass == n) ≡ true = eq-eqb x.pass n (ap (λ (y : Entry). y.pass) same ∙ own) in
    let h : x ∷ of n es ≡ [] = ap (λ (b : Bool). cond b (x ∷ of n es) (of n es)) (sym t) ∙ none in
    absurd (cc h)
not_there n (x ∷ es) (suc i) e none is own = (elim (x.pass == n) as (λ b. cond b (x ∷ of n es) (of n es) ≡ [] → ⊥) [
  | true ↦ λ h. absurd (cc h)
  | false ↦ λ h. not_there n es i e h is own
]) none

-- where a list has only the ones of its front, none is in the rest
none_in_rest : (n : ℕ) (front rest : List Entry) → of n (front ++ rest) ≡ of n front → of n rest ≡ []
none_in_rest n front rest same =
    append_cancel_left (of n front) (of n rest) [] (sym (filter-append (λ (x : Entry). x.pass == n) front rest) ∙ same ∙ sym (append-nil (of n front)))

-- an entry past a front that has all of its pass isn't there
pub none_past : (front all : List Entry) (i : ℕ) (e : Entry) → IsPrefix front all → of e.pass all ≡ of e.pass front → length front ≤ i →
    slice_get all i ≡ Some e → ⊥
none_past front all i e p same far is =
    not_there e.pass p.0 (i - length front) e (none_in_rest e.pass front p.0 (ap (of e.pass) p.1 ∙ same))
    (sym (get_past front p.0 i far) ∙ ap (λ (l : List Entry). slice_get l i) p.1 ∙ is) refl

-- an entry of the whole list stands at its place in what its pass had seen, after the same entries
pub record StoodThere (seen all : List Entry) (i : ℕ) (e : Entry) : Type 0 where
  pub there : slice_get seen i ≡ Some e
  pub before : take i seen ≡ take i all

pub stood_there : (n : ℕ) (seen all : List Entry) (i : ℕ) (e : Entry) → IsPrefix seen all → of n all ≡ of n seen → slice_get all i ≡ Some e → e.pass ≡ n →
    StoodThere seen all i e
stood_there n seen all i e p same is own =
    elim (cases_lt i (length seen)) as (λ _. StoodThere seen all i e) [
      | inl low ↦ record {
        there = sym (get_front seen p.0 i low) ∙ here;
        before = sym (take-append-le i seen p.0 (omega (arith, low))) ∙ ap (λ (l : List Entry). take i l) p.1;
      }
      | inr far ↦ absurd (not_there n p.0 (i - length seen) e (none_in_rest n seen p.0 (ap (of n) p.1 ∙ same)) (sym (get_past seen p.0 i far) ∙ here) own)
    ]
  where
    here : slice_get (seen ++ p.0) i ≡ Some e
    here = ap (λ (l : List Entry). slice_get l i) p.1 ∙ is

-- ---- records and columns

pub records-append : (front rest : List Entry) → records (front ++ rest) ≡ records front ++ records rest
records-append front rest = map-append (λ (e : Entry). e.stored) front rest

pub records_front : (front all : List Entry) → IsPrefix front all → IsPrefix (records front) (records all)
records_front front all p = (records p.0, sym (records-append front p.0) ∙ ap records p.1)

-- the columns of a front are among those of the whole
pub columns_front : (front all : List Entry) → IsPrefix front all → (c : Column) → Contains (columns_of front) c → Contains (columns_of all) c
columns_front front all p c has =
    subst (λ (l : List Entry). Contains (columns_of l) c) p.1
    (subst (λ (cs : List Column). Contains cs c) (sym both) (Contains-append_left (columns_of front) (columns_of p.0) c has))
  where
    both : columns_of (front ++ p.0) ≡ columns_of front ++ columns_of p.0
    both = ap columns_in (records-append front p.0) ∙ flat_map-append (λ (r : UploadData). r.columns) (records front) (records p.0)
