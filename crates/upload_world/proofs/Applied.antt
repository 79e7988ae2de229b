-- What an upload does to the content of a list of entries, and to its keys.
use Rattle.std.specs.Prelude.{◌≡◌, ℕ, zero, suc, ◌+◌, ◌<◌, ◌≤◌, Bool, true, false, cond, ◌||◌, List, [], ◌∷◌, ◌++◌, map, filter, take, length, fold, Option, None, Some, is_some, is_none, IfSome, Result, Ok, Err, slice_index_or}
use Rattle.std.specs.List.{AllByRecursion, IsDistinct, list_any}
use Rattle.std.specs.Option.{option_or}
use Rattle.std.proofs.Common.{refl, sym, ap, subst, ◌∙◌, arith, true≢false, append-nil, take_all}
use Rattle.std.proofs.lemmas.Grind.{flat_map-append}
use Rattle.std.proofs.lemmas.List.{map-append, take_more}
use Rattle.std.proofs.lemmas.Map.Keys.{IsDistinct-push, IsDistinct-cons, IsDistinct-head, IsDistinct-tail}
use Rattle.lg_model.specs.declared.column.Key.{Key}
use Rattle.lg_model.specs.Placing.{Shape}
use Rattle.lg_model.specs.Columns.{Cells, Column}
use Rattle.lg_model.specs.Answer.{Content, with_column, content_of, found}
use Rattle.sketchlet_wire.specs.Uploads.{UploadData, IsUpload, same_column_key, holds_key, no_column}
use Rattle.column_book.specs.declared.entry.Entry.{Entry}
use Rattle.column_book.specs.declared.fault.BookFault.{BookFault}
use Rattle.column_book.specs.Entries.{records, columns_in, columns_of, content}
use Rattle.column_book.specs.Applying.{is_new, new_columns, decide, entry_with, with_new, after_decision, after}
use Rattle.column_book.proofs.Keys.{key_itself, is_at_key, same_column_key-flip, keys_equiv}
use Rattle.column_book.proofs.Contents.{found-insert}
use Rattle.column_book.proofs.Joins.{in_order, found-join, law}
use Rattle.column_book.proofs.Applying.{taken}
use Rattle.upload_world.specs.Law.{AreKept, KeysDiffer}

-- ---- what is found in the content of columns

-- Whether one of the columns has that key.
abbrev keys : List Column → List Key
keys cs = map (λ (c : Column). c.key) cs

abbrev has : List Column → Key → Bool
has cs q = list_any (same_column_key q) (keys cs)

-- a column more
pub found_more : (m : Content) (c : Column) (q : Key) → found (with_column m c) q ≡ cond (same_column_key q c.key) (Some c.cells) (found m q)
found_more m c q = found-insert m c.key q c.cells ∙ ap (λ b. cond b (Some c.cells) (found m q)) (is_at_key q c.key)

parts : (a b : Bool) → (a || b) ≡ false → (a ≡ false) × (b ≡ false)
parts true b e = absurd (true≢false e)
parts false b e = (refl, e)

-- columns of other keys change nothing
found_other : (m : Content) (cs : List Column) (q : Key) → has cs q ≡ false → found (fold with_column m cs) q ≡ found m q
found_other m [] q none = refl
found_other m (c ∷ cs) q none =
    let p = parts (same_column_key q c.key) (has cs q) none in
    found_other (with_column m c) cs q p.1 ∙ found_more m c q ∙ ap (λ b. cond b (Some c.cells) (found m q)) p.0

-- a key is found exactly where a column has it
is_found : (m : Content) (cs : List Column) (q : Key) → is_some (found (fold with_column m cs) q) ≡ (has cs q || is_some (found m q))
is_found m [] q = refl
is_found m (c ∷ cs) q = is_found (with_column m c) cs q ∙ ap (λ o. has cs q || is_some o) (found_more m c q)
    ∙ (elim (same_column_key q c.key) as (λ b. (has cs q || is_some (cond b (Some c.cells) (found m q))) ≡ ((b || has cs q) || is_some (found m q))) [
      | true ↦ or_true (has cs q)
      | false ↦ refl
    ])
  where
    or_true : (b : Bool) → (b || true) ≡ true
    or_true true = refl
    or_true false = refl

-- keys apart from a key do not have it
none_has : (k : Key) (cs : List Column) → AllByRecursion (λ (y : Key). same_column_key k y ≡ false) (keys cs) → has cs k ≡ false
none_has k [] all = refl
none_has k (c ∷ cs) all = (λ i. all.0 i || has cs k) ∙ none_has k cs all.1

-- each of columns whose keys differ is found
each_found : (m : Content) (cs : List Column) → IsDistinct same_column_key (keys cs) → AreKept (fold with_column m cs) cs
each_found m [] apart = tt
each_found m (c ∷ cs) apart = (
  found_other (with_column m c) cs c.key (none_has c.key cs (IsDistinct-head same_column_key c.key (keys cs) apart))
      ∙ found_more m c c.key ∙ ap (λ b. cond b (Some c.cells) (found m c.key)) (key_itself c.key),
  each_found (with_column m c) cs (IsDistinct-tail same_column_key c.key (keys cs) apart),
)

-- ---- the keys of an upload differ

holds_has : (k : Key) (cs : List Column) → holds_key k cs ≡ has cs k
holds_has k [] = refl
holds_has k (c ∷ cs) = λ i. same_column_key-flip c.key k i || holds_has k cs i

keys_push : (cs : List Column) (c : Column) → IsDistinct same_column_key (keys cs) → has cs c.key ≡ false → IsDistinct same_column_key (keys (cs ++ c ∷ []))
keys_push cs c apart none =
    subst (IsDistinct same_column_key) (sym (map-append (λ (x : Column). x.key) cs (c ∷ []))) (IsDistinct-push keys_equiv (keys cs) c.key apart none)

keys_apart : (cs : List Column) → IsUpload cs → IsDistinct same_column_key (keys cs)
unfolding IsDistinct
keys_apart cs h = subst (λ (xs : List Column). IsDistinct same_column_key (keys xs)) (take_all (length cs) cs (omega arith)) (fronts (length cs) (omega arith))
  where
    fronts : (n : ℕ) → n ≤ length cs → IsDistinct same_column_key (keys (take n cs))
    fronts zero le = tt
    fronts (suc n) le =
        let lt : n < length cs = omega arith in
        let one : n + 1 ≡ suc n = omega arith in
        let c = slice_index_or cs n no_column in
        subst (λ m. IsDistinct same_column_key (keys (take m cs))) one
        (subst (λ (xs : List Column). IsDistinct same_column_key (keys xs)) (sym (take_more cs n no_column lt))
        (keys_push (take n cs) c (fronts n (omega arith)) (sym (holds_has c.key (take n cs)) ∙ h.apart n lt)))

-- ---- an upload that is applied

-- What is found in the first content is found in the second.
abbrev pub Extends : Content → Content → Type 0
Extends m n = (k : Key) (v : Cells) → found m k ≡ Some v → found n k ≡ Some v

pub stays_kept : (m n : Content) → Extends m n → (cs : List Column) → AreKept m cs → AreKept n cs
stays_kept m n more [] all = tt
stays_kept m n more (c ∷ cs) all = (more c.key c.cells all.0, stays_kept m n more cs all.1)

module _ (shape : Shape) (room : ℕ) (es : List Entry) (pass : ℕ) (u : UploadData) where
  abbrev m : Content
  m = content es

  found_after : (new : List Column) → decide shape room (records es) u ≡ Ok new → (q : Key) →
      found (content (after shape room es pass u)) q ≡ option_or (found (content_of u.columns) q) (found m q)
  found_after new is q = ap (λ (n : Content). found n q) (law shape room es pass u new is).joined
      ∙ found-join m (content_of u.columns) q (in_order [] u.columns tt)

  -- An upload that is taken has all its columns in the content.
  pub taken_is_kept : IsUpload u.columns → (new : List Column) → decide shape room (records es) u ≡ Ok new →
      AreKept (content (after shape room es pass u)) u.columns
  taken_is_kept ok new is = each u.columns (each_found [] u.columns (keys_apart u.columns ok))
    where
      each : (cs : List Column) → AreKept (content_of u.columns) cs → AreKept (content (after shape room es pass u)) cs
      each [] all = tt
      each (c ∷ cs) all = (found_after new is c.key ∙ ap (λ (o : Option Cells). option_or o (found m c.key)) all.0, each cs all.1)

  -- What was in the content stays there.
  pub content_extends : Extends m (content (after shape room es pass u))
  content_extends k v has_v = by (decide shape room (records es) u) refl
    where
      joined : (o : Option Cells) → IfSome (Some v) (λ x. IfSome o (λ y. y ≡ x)) → option_or o (Some v) ≡ Some v
      joined None same = refl
      joined (Some y) same = ap (λ (x : Cells). Some x) same

      by : (d : Result (List Column) BookFault) → decide shape room (records es) u ≡ d → found (content (after shape room es pass u)) k ≡ Some v
      by (Err fault) is = ap (λ (x : Result (List Column) BookFault). found (content (after_decision es pass u x)) k) is ∙ has_v
      by (Ok new) is =
          let agree = subst (λ (o : Option Cells). IfSome o (λ x. IfSome (found (content_of u.columns) k) (λ y. y ≡ x))) has_v
          ((law shape room es pass u new is).joinable k) in
          found_after new is k ∙ ap (option_or (found (content_of u.columns) k)) has_v ∙ joined (found (content_of u.columns) k) agree

  -- The entries after it begin with those before it.
  pub entries_grow : (more : List Entry) × (after shape room es pass u ≡ es ++ more)
  entries_grow = by (decide shape room (records es) u)
    where
      stored : (new : List Column) → (more : List Entry) × (with_new es pass u new ≡ es ++ more)
      stored [] = ([], sym (append-nil es))
      stored (c ∷ cs) = (entry_with pass u (c ∷ cs) ∷ [], refl)

      by : (d : Result (List Column) BookFault) → (more : List Entry) × (after_decision es pass u d ≡ es ++ more)
      by (Err fault) = ([], sym (append-nil es))
      by (Ok new) = stored new

-- ---- no key stands twice

columns_new : (es : List Entry) (pass : ℕ) (u : UploadData) (new : List Column) → columns_of (with_new es pass u new) ≡ columns_of es ++ new
columns_new es pass u [] = sym (append-nil (columns_of es))
columns_new es pass u (c ∷ cs) =
    ap columns_in (map-append (λ (x : Entry). x.stored) es (entry_with pass u (c ∷ cs) ∷ []))
    ∙ flat_map-append (λ (r : UploadData). r.columns) (records es) ((entry_with pass u (c ∷ cs)).stored ∷ [])
    ∙ ap (λ (xs : List Column). columns_of es ++ xs) (append-nil (c ∷ cs))

apart_head : (k : Key) (xs ys : List Column) → AllByRecursion (λ (q : Key). same_column_key k q ≡ false) (keys xs) →
    AllByRecursion (λ (y : Column). same_column_key k y.key ≡ false) ys
    → AllByRecursion (λ (q : Key). same_column_key k q ≡ false) (keys (xs ++ ys))
apart_head k [] [] a b = tt
apart_head k [] (y ∷ ys) a b = (b.0, apart_head k [] ys tt b.1)
apart_head k (x ∷ xs) ys a b = (a.0, apart_head k xs ys a.1 b)

apart_append : (xs ys : List Column) → IsDistinct same_column_key (keys xs) → IsDistinct same_column_key (keys ys) →
    AllByRecursion (λ (y : Column). has xs y.key ≡ false) ys → IsDistinct same_column_key (keys (xs ++ ys))
apart_append [] ys a b h = b
apart_append (x ∷ xs) ys a b h =
    IsDistinct-cons same_column_key x.key (keys (xs ++ ys))
    (apart_head x.key xs ys (IsDistinct-head same_column_key x.key (keys xs) a) (heads ys h))
    (apart_append xs ys (IsDistinct-tail same_column_key x.key (keys xs) a) b (tails ys h))
  where
    heads : (zs : List Column) → AllByRecursion (λ (y : Column). has (x ∷ xs) y.key ≡ false) zs →
        AllByRecursion (λ (y : Column). same_column_key x.key y.key ≡ false) zs
    heads [] all = tt
    heads (z ∷ zs) all = (same_column_key-flip x.key z.key ∙ (parts (same_column_key z.key x.key) (has xs z.key) all.0).0, heads zs all.1)

    tails : (zs : List Column) → AllByRecursion (λ (y : Column). has (x ∷ xs) y.key ≡ false) zs → AllByRecursion (λ (y : Column). has xs y.key ≡ false) zs
    tails [] all = tt
    tails (z ∷ zs) all = ((parts (same_column_key z.key x.key) (has xs z.key) all.0).1, tails zs all.1)

filter_head : (p : Column → Bool) (k : Key) (cs : List Column) → AllByRecursion (λ (q : Key). same_column_key k q ≡ false) (keys cs) →
    AllByRecursion (λ (q : Key). same_column_key k q ≡ false) (keys (filter p cs))
filter_head p k [] all = tt
filter_head p k (c ∷ cs) all = elim (p c) as (λ b. AllByRecursion (λ (q : Key). same_column_key k q ≡ false) (keys (cond b (c ∷ filter p cs) (filter p cs)))) [
  | true ↦ (all.0, filter_head p k cs all.1)
  | false ↦ filter_head p k cs all.1
]

apart_filter : (p : Column → Bool) (cs : List Column) → IsDistinct same_column_key (keys cs) → IsDistinct same_column_key (keys (filter p cs))
apart_filter p [] apart = apart
apart_filter p (c ∷ cs) apart =
    let rest = apart_filter p cs (IsDistinct-tail same_column_key c.key (keys cs) apart) in
    elim (p c) as (λ b. IsDistinct same_column_key (keys (cond b (c ∷ filter p cs) (filter p cs)))) [
      | true ↦ IsDistinct-cons same_column_key c.key (keys (filter p cs)) (filter_head p c.key cs (IsDistinct-head same_column_key c.key (keys cs) apart)) rest
      | false ↦ rest
    ]

-- the new columns have no key of the old ones
new_apart : (cs us : List Column) → AllByRecursion (λ (y : Column). has cs y.key ≡ false) (new_columns (content_of cs) us)
new_apart cs [] = tt
new_apart cs (u ∷ us) = (elim (is_new (content_of cs) u) as (λ b. is_new (content_of cs) u ≡ b → AllByRecursion (λ (y : Column). has cs y.key ≡ false)
    (cond b (u ∷ new_columns (content_of cs) us) (new_columns (content_of cs) us))) [
      | true ↦ λ new. (none (has cs u.key) (found (content_of cs) u.key) (is_found [] cs u.key) new, new_apart cs us)
      | false ↦ λ old. new_apart cs us
    ]) refl
  where
    none : (b : Bool) (o : Option Cells) → is_some o ≡ (b || false) → is_none o ≡ true → b ≡ false
    none false o same new = refl
    none true None same new = absurd (true≢false (sym same))
    none true (Some v) same new = absurd (true≢false (sym new))

-- No key stands twice after an upload.
pub keys_differ_after : (shape : Shape) (room : ℕ) (es : List Entry) (pass : ℕ) (u : UploadData) → IsUpload u.columns → KeysDiffer es →
    KeysDiffer (after shape room es pass u)
keys_differ_after shape room es pass u ok apart = by (decide shape room (records es) u) refl
  where
    by : (d : Result (List Column) BookFault) → decide shape room (records es) u ≡ d → KeysDiffer (after_decision es pass u d)
    by (Err fault) is = apart
    by (Ok new) is =
        let all = apart_append (columns_of es) (new_columns (content es) u.columns) apart
        (apart_filter (is_new (content es)) u.columns (keys_apart u.columns ok)) (new_apart (columns_of es) u.columns) in
        subst (λ (cs : List Column). IsDistinct same_column_key (keys cs))
        (ap (λ (n : List Column). columns_of es ++ n) (sym (taken shape room (records es) u new is).is) ∙ sym (columns_new es pass u new)) all
