-- Keys of which none stands twice.
use Rattle.std.proofs.Common.{◌≡◌, ℕ, zero, suc, ◌<◌, Bool, true, false, not, ◌||◌, cond, List, [], ◌∷◌, ◌++◌, length, get_or, Option, None}
use Rattle.std.proofs.Common.{Some, refl, sym, ◌∙◌, ap, subst, arith}
use Rattle.std.specs.Prelude.{filter, fold, is_none, is_some}
use Rattle.std.specs.List.{AllByRecursion, IsDistinct, list_any}
use Rattle.std.proofs.lemmas.List.{map-append}
use Rattle.std.proofs.lemmas.Map.Keys.{IsDistinct-head, IsDistinct-tail, IsDistinct-cons}
use Rattle.lg_model.specs.declared.column.Key.{Key}
use Rattle.lg_model.specs.Columns.{Cells, Column}
use Rattle.lg_model.specs.Answer.{Content, key_cmp, with_column, content_of, found}
use Rattle.sketchlet_wire.specs.Uploads.{same_column_key, is_twice, no_column, IsUpload}
use Rattle.column_book.specs.Kept.{keys_of}
use Rattle.column_book.specs.Applying.{is_new}
use Rattle.column_book.proofs.Keys.{same_column_key-flip, is_at_key}
use Rattle.std.specs.BTreeMap.{is_at}
use Rattle.column_book.proofs.Contents.{found-insert}
use Rattle.column_book.proofs.Stored.{distinct_new}

-- ---- lists

pub all_map : {X : Type 0} (P Q : X → Type 0) → ((x : X) → P x → Q x) → (xs : List X) → AllByRecursion P xs → AllByRecursion Q xs
all_map P Q f [] h = tt
all_map P Q f (x ∷ xs) h = (f x h.0, all_map P Q f xs h.1)

pub all_push : {X : Type 0} (P : X → Type 0) (xs : List X) (y : X) → AllByRecursion P xs → P y → AllByRecursion P (xs ++ y ∷ [])
all_push P [] y all one = (one, tt)
all_push P (x ∷ xs) y all one = (all.0, all_push P xs y all.1 one)

pub all_last : {X : Type 0} (P : X → Type 0) (xs : List X) (y : X) → AllByRecursion P (xs ++ y ∷ []) → P y
all_last P [] y all = all.0
all_last P (x ∷ xs) y all = all_last P xs y all.1

both_all : {X : Type 0} (P : X → Type 0) (xs ys : List X) → AllByRecursion P xs → AllByRecursion P ys → AllByRecursion P (xs ++ ys)
both_all P [] ys a b = b
both_all P (x ∷ xs) ys a b = (a.0, both_all P xs ys a.1 b)

all_both : {X : Type 0} (P : X → Type 0) (xs ys : List X) → AllByRecursion P (xs ++ ys) → AllByRecursion P xs × AllByRecursion P ys
all_both P [] ys all = (tt, all)
all_both P (x ∷ xs) ys all = let rest = all_both P xs ys all.1 in ((all.0, rest.0), rest.1)

transposed : {X : Type 0} (R : X → X → Type 0) (xs ys : List X) → AllByRecursion (λ y. AllByRecursion (λ x. R x y) xs) ys
    → AllByRecursion (λ x. AllByRecursion (λ y. R x y) ys) xs
transposed R [] ys h = tt
transposed R (x ∷ xs) ys h = (
  all_map (λ y. AllByRecursion (λ z. R z y) (x ∷ xs)) (λ y. R x y) (λ y all. all.0) ys h,
  transposed R xs ys (all_map (λ y. AllByRecursion (λ z. R z y) (x ∷ xs)) (λ y. AllByRecursion (λ z. R z y) xs) (λ y all. all.1) ys h),
)

pub pass_all : (p : Column → Bool) (cs : List Column) → AllByRecursion (λ c. p c ≡ true) cs → filter p cs ≡ cs
pass_all p [] all = refl
pass_all p (c ∷ cs) all = rw (all.0) (ap (λ (xs : List Column). c ∷ xs) (pass_all p cs all.1))

-- ---- keys

-- none of these keys is one of those
abbrev AreOthers : List Key → List Key → Type 0
AreOthers ks qs = AllByRecursion (λ k. AllByRecursion (λ q. same_column_key k q ≡ false) qs) ks

distinct_join : (ks qs : List Key) → IsDistinct same_column_key ks → IsDistinct same_column_key qs → AreOthers ks qs
    → IsDistinct same_column_key (ks ++ qs)
distinct_join [] qs a b o = b
distinct_join (k ∷ ks) qs a b o =
    IsDistinct-cons same_column_key k (ks ++ qs)
    (both_all (λ q. same_column_key k q ≡ false) ks qs (IsDistinct-head same_column_key k ks a) o.0)
    (distinct_join ks qs (IsDistinct-tail same_column_key k ks a) b o.1)

distinct_split : (ks qs : List Key) → IsDistinct same_column_key (ks ++ qs)
    → IsDistinct same_column_key ks × IsDistinct same_column_key qs × AreOthers ks qs
unfolding IsDistinct
distinct_split [] qs d = (tt, d, tt)
distinct_split (k ∷ ks) qs d =
    let rest = distinct_split ks qs (IsDistinct-tail same_column_key k (ks ++ qs) d) in
    let here = all_both (λ q. same_column_key k q ≡ false) ks qs (IsDistinct-head same_column_key k (ks ++ qs) d) in
    (IsDistinct-cons same_column_key k ks here.0 rest.0, rest.1, (here.1, rest.2))

all_keys : (P : Key → Type 0) (cs : List Column) → AllByRecursion (λ (c : Column). P c.key) cs → AllByRecursion P (keys_of cs)
all_keys P [] all = tt
all_keys P (c ∷ cs) all = (all.0, all_keys P cs all.1)

of_keys : (P : Key → Type 0) (cs : List Column) → AllByRecursion P (keys_of cs) → AllByRecursion (λ (c : Column). P c.key) cs
of_keys P [] all = tt
of_keys P (c ∷ cs) all = (all.0, of_keys P cs all.1)

-- ---- keys and contents

abbrev at_key : Key → Key → Bool
at_key q k = is_at (key_cmp q) k

or_front : (here later : Bool) (old : Option Cells) (v : Cells)
    → (later || is_some (cond here (Some v) old)) ≡ ((here || later) || is_some old)
or_front true true old v = refl
or_front true false old v = refl
or_front false later old v = refl

found_after : (m : Content) (cs : List Column) (q : Key)
    → is_some (found (fold with_column m cs) q) ≡ (list_any (same_column_key q) (keys_of cs) || is_some (found m q))
found_after m [] q = refl
found_after m (c ∷ cs) q =
    found_after (with_column m c) cs q
    ∙ ap (λ (o : Option Cells). list_any (same_column_key q) (keys_of cs) || is_some o) (found-insert m c.key q c.cells)
    ∙ or_front (at_key q c.key) (list_any (same_column_key q) (keys_of cs)) (found m q) c.cells
    ∙ ap (λ (b : Bool). (b || list_any (same_column_key q) (keys_of cs)) || is_some (found m q)) (is_at_key q c.key)

or_false : (b : Bool) → (b || false) ≡ b
or_false true = refl
or_false false = refl

none_not : (o : Option Cells) (b : Bool) → is_some o ≡ b → is_none o ≡ not b
none_not None b h = ap not h
none_not (Some v) b h = ap not h

-- a key is new exactly where no column has it
new_is : (cs : List Column) (q : Key) → is_none (found (content_of cs) q) ≡ not (list_any (same_column_key q) (keys_of cs))
new_is cs q = none_not (found (content_of cs) q) (list_any (same_column_key q) (keys_of cs))
    (found_after [] cs q ∙ or_false (list_any (same_column_key q) (keys_of cs)))

none_from : (q : Key) (ks : List Key) → not (list_any (same_column_key q) ks) ≡ true → AllByRecursion (λ k. same_column_key k q ≡ false) ks
none_from q [] h = tt
none_from q (k ∷ ks) h =
    (elim (same_column_key q k) as (λ b. same_column_key q k ≡ b → not (b || list_any (same_column_key q) ks) ≡ true
    → AllByRecursion (λ x. same_column_key x q ≡ false) (k ∷ ks)) [
      | true ↦ λ is g. absurd (cc)
      | false ↦ λ is g. (same_column_key-flip k q ∙ is, none_from q ks g)
    ]) refl h

from_none : (q : Key) (ks : List Key) → AllByRecursion (λ k. same_column_key k q ≡ false) ks → not (list_any (same_column_key q) ks) ≡ true
from_none q [] all = refl
from_none q (k ∷ ks) all = rw (same_column_key-flip q k ∙ all.0) (from_none q ks all.1)

-- The columns have keys that are not in the content of the others.
abbrev pub AreNew : List Column → List Column → Type 0
AreNew old cs = AllByRecursion (λ c. is_new (content_of old) c ≡ true) cs

others_from_new : (old cs : List Column) → AreNew old cs → AreOthers (keys_of old) (keys_of cs)
others_from_new old cs new = transposed (λ k q. same_column_key k q ≡ false) (keys_of old) (keys_of cs)
    (all_keys (λ q. AllByRecursion (λ k. same_column_key k q ≡ false) (keys_of old)) cs
    (all_map (λ (c : Column). is_new (content_of old) c ≡ true)
    (λ (c : Column). AllByRecursion (λ k. same_column_key k c.key ≡ false) (keys_of old))
    (λ c h. none_from c.key (keys_of old) (sym (new_is old c.key) ∙ h)) cs new))

new_from_others : (old cs : List Column) → AreOthers (keys_of old) (keys_of cs) → AreNew old cs
new_from_others old cs others =
    all_map (λ (c : Column). AllByRecursion (λ k. same_column_key k c.key ≡ false) (keys_of old))
    (λ (c : Column). is_new (content_of old) c ≡ true)
    (λ c h. new_is old c.key ∙ from_none c.key (keys_of old) h) cs
    (of_keys (λ q. AllByRecursion (λ k. same_column_key k q ≡ false) (keys_of old)) cs
    (transposed (λ q k. same_column_key k q ≡ false) (keys_of cs) (keys_of old) others))

pub apart_join : (old cs : List Column) → IsDistinct same_column_key (keys_of old) → IsDistinct same_column_key (keys_of cs) → AreNew old cs
    → IsDistinct same_column_key (keys_of (old ++ cs))
apart_join old cs a b new =
    subst (λ (ks : List Key). IsDistinct same_column_key ks) (sym (map-append (λ (c : Column). c.key) old cs))
    (distinct_join (keys_of old) (keys_of cs) a b (others_from_new old cs new))

pub record ArePart (old cs : List Column) : Type 0 where
  pub first : IsDistinct same_column_key (keys_of old)
  pub second : IsDistinct same_column_key (keys_of cs)
  pub new : AreNew old cs

pub apart_split : (old cs : List Column) → IsDistinct same_column_key (keys_of (old ++ cs)) → ArePart old cs
apart_split old cs d =
    let parts = distinct_split (keys_of old) (keys_of cs)
    (subst (λ (ks : List Key). IsDistinct same_column_key ks) (map-append (λ (c : Column). c.key) old cs) d) in
    record { first = parts.0; second = parts.1; new = new_from_others old cs parts.2 }

-- ---- uploads

all_true : (cs : List Column) → AllByRecursion (λ (c : Column). ◌≡◌ {A = Bool} true true) cs
all_true [] = tt
all_true (c ∷ cs) = (refl, all_true cs)

pub apart_upload : (cs : List Column) → IsUpload cs → IsDistinct same_column_key (keys_of cs)
apart_upload cs is =
    subst (λ (xs : List Column). IsDistinct same_column_key (keys_of xs)) (pass_all (λ (c : Column). true) cs (all_true cs))
    (distinct_new (λ (c : Column). true) cs is.apart)

key_at : (P : Key → Type 0) (cs : List Column) (n : ℕ) → AllByRecursion P (keys_of cs) → n < length cs → P (get_or cs n no_column).key
key_at P [] n all lt = absurd (omega arith)
key_at P (c ∷ cs) zero all lt = all.0
key_at P (c ∷ cs) (suc n) all lt = key_at P cs n all.1 (omega arith)

pub not_twice : (cs : List Column) → IsDistinct same_column_key (keys_of cs) → (n : ℕ) → n < length cs → is_twice cs n ≡ false
not_twice [] d n lt = absurd (omega arith)
not_twice (c ∷ cs) d zero lt = refl
not_twice (c ∷ cs) d (suc n) lt =
    let apart = key_at (λ k. same_column_key c.key k ≡ false) cs n (IsDistinct-head same_column_key c.key (keys_of cs) d) (omega arith) in
    rw apart (not_twice cs (IsDistinct-tail same_column_key c.key (keys_of cs) d) n (omega arith))
