-- What stands in a list of entries, and what is found in its content.
use Rattle.std.specs.Prelude.{◌≡◌, ◌≢◌, ℕ, zero, suc, ◌<◌, ◌⊎◌, Bool, true, false, cond, ◌||◌, List, [], ◌∷◌, ◌++◌, length, fold, filter, All, Contains, Option, None, Some, IfSome, is_none, Result, Ok, slice_index_or}
use Rattle.std.proofs.Common.{refl, sym, ap, ◌∙◌, subst, arith, inl, inr, true≢false, append-nil}
use Rattle.std.proofs.lemmas.List.{map-append}
use Rattle.std.proofs.lemmas.List.Elements.{All-nil, All-cons, All-contains, All-contains_itself, All-weaker, filter_passes, Contains-append_left, Contains-append_right}
use Rattle.std.proofs.lemmas.Grind.{flat_map-append}
use Rattle.lg_model.specs.declared.column.Key.{Key}
use Rattle.lg_model.specs.Placing.{Shape}
use Rattle.lg_model.specs.Columns.{Cells, Column}
use Rattle.lg_model.specs.Answer.{Content, with_column, found}
use Rattle.sketchlet_wire.specs.Uploads.{UploadData, same_column_key, holds_key}
use Rattle.column_book.specs.declared.entry.Entry.{Entry}
use Rattle.column_book.specs.declared.fault.BookFault.{BookFault}
use Rattle.column_book.specs.Entries.{records, columns_in, columns_of, content}
use Rattle.column_book.specs.Applying.{is_new, new_columns, decide, stored_entry}
use Rattle.column_book.specs.Outcomes.{IsSame, Follows}
use Rattle.column_book.proofs.Keys.{one_key, key_itself}
use Rattle.column_book.proofs.Outcomes as outcomes
use Rattle.shared_book.specs.Passes.{HasNewBy}
use Rattle.upload_world.specs.Pumps.{Has, StandsIn, IsApart}
use Rattle.upload_world.proofs.Applied.{found_more}

-- ---- columns

-- what is found was there, or is one of the columns
pub came_from : (m : Content) (cs : List Column) (k : Key) (v : Cells) → found (fold with_column m cs) k ≡ Some v → (found m k ≡ Some v) ⊎ Has cs k v
came_from m [] k v h = inl h
came_from m (c ∷ cs) k v h = elim (came_from (with_column m c) cs k v h) [
  | inl here ↦ by (same_column_key k c.key) refl here
  | inr later ↦ inr (record {
    column = later.column;
    inside = Contains-append_right (c ∷ []) cs later.column later.inside;
    key = later.key;
    cells = later.cells;
  })
]
  where
    some_same : (x y : Cells) → Some x ≡ Some y → x ≡ y
    some_same x y e = cc e

    by : (b : Bool) → same_column_key k c.key ≡ b → found (with_column m c) k ≡ Some v → (found m k ≡ Some v) ⊎ Has (c ∷ cs) k v
    by true p here =
        let told : found (with_column m c) k ≡ Some c.cells = found_more m c k ∙ ap (λ (x : Bool). cond x (Some c.cells) (found m k)) p in
        inr (record { column = c; inside = (0, omega arith, refl); key = sym (one_key k c.key p); cells = some_same c.cells v (sym told ∙ here) })
    by false p here = inl (sym (found_more m c k ∙ ap (λ (x : Bool). cond x (Some c.cells) (found m k)) p) ∙ here)

-- where nothing is found under a key, none of the columns has it
none_has : (q : Key) (m : Content) (cs : List Column) → found (fold with_column m cs) q ≡ None → (found m q ≡ None) × All (λ (c : Column). c.key ≢ q) cs
none_has q m [] none = (none, All-nil (λ (c : Column). c.key ≢ q))
none_has q m (c ∷ cs) none =
    let rest = none_has q (with_column m c) cs none in
    let first = by (same_column_key q c.key) refl rest.0 in
    (first.0, All-cons (λ (x : Column). x.key ≢ q) c cs first.1 rest.1)
  where
    by : (b : Bool) → same_column_key q c.key ≡ b → found (with_column m c) q ≡ None → (found m q ≡ None) × (c.key ≢ q)
    by true p here = let told : Some c.cells ≡ None = sym (found_more m c q ∙ ap (λ (x : Bool). cond x (Some c.cells) (found m q)) p) ∙ here in absurd (cc told)
    by false p here = (
      sym (found_more m c q ∙ ap (λ (x : Bool). cond x (Some c.cells) (found m q)) p) ∙ here,
      λ same. true≢false (sym (key_itself q) ∙ ap (same_column_key q) (sym same) ∙ p),
    )

contains_filter : (p : Column → Bool) (cs : List Column) (c : Column) → Contains cs c → p c ≡ true → Contains (filter p cs) c
contains_filter p [] c has passes = absurd (let low = has.1 in omega (arith, low))
contains_filter p (d ∷ cs) c has passes = at has.0 has.1 has.2 (λ h. contains_filter p cs c h passes)
  where
    at : (i : ℕ) → i < length (d ∷ cs) → slice_index_or (d ∷ cs) i c ≡ c → (Contains cs c → Contains (filter p cs) c) → Contains (filter p (d ∷ cs)) c
    at zero low is later =
        let here : p d ≡ true = ap p is ∙ passes in
        subst (λ (b : Bool). Contains (cond b (d ∷ filter p cs) (filter p cs)) c) (sym here) (0, omega arith, is)
    at (suc i) low is later =
        let rest = later (i, omega (arith, low), is) in
        elim (p d) as (λ b. Contains (cond b (d ∷ filter p cs) (filter p cs)) c) [
          | true ↦ Contains-append_right (d ∷ []) (filter p cs) c rest
          | false ↦ rest
        ]

record Holds (k : Key) (cs : List Column) : Type 0 where
  column : Column
  inside : Contains cs column
  key : column.key ≡ k

holds : (k : Key) (cs : List Column) → holds_key k cs ≡ true → Holds k cs
holds k [] h = absurd (true≢false (sym h))
holds k (c ∷ cs) h = by (same_column_key c.key k) refl h (λ later. holds k cs later)
  where
    rest : (a b : Bool) → a ≡ false → (a || b) ≡ true → b ≡ true
    rest true b no_a h = absurd (true≢false no_a)
    rest false b no_a h = h

    by : (b : Bool) → same_column_key c.key k ≡ b → holds_key k (c ∷ cs) ≡ true → (holds_key k cs ≡ true → Holds k cs) → Holds k (c ∷ cs)
    by true p is later = record { column = c; inside = (0, omega arith, refl); key = one_key c.key k p }
    by false p is later =
        let r = later (rest (same_column_key c.key k) (holds_key k cs) p is) in
        record { column = r.column; inside = Contains-append_right (c ∷ []) cs r.column r.inside; key = r.key }

-- ---- lists of entries

pub columns-append : (es fs : List Entry) → columns_of (es ++ fs) ≡ columns_of es ++ columns_of fs
columns-append es fs = ap columns_in (map-append (λ (x : Entry). x.stored) es fs) ∙ flat_map-append (λ (r : UploadData). r.columns) (records es) (records fs)

-- what stands in a list stands in every list that it begins
pub stands_more : (u : UploadData) (es fs : List Entry) → StandsIn u es → StandsIn u (es ++ fs)
stands_more u es fs all = All-weaker (λ (c : Column). Has (columns_of es) c.key c.cells) (λ (c : Column). Has (columns_of (es ++ fs)) c.key c.cells)
    (λ c has. record {
      column = has.column;
      inside = subst (λ (cs : List Column). Contains cs has.column) (sym (columns-append es fs))
          (Contains-append_left (columns_of es) (columns_of fs) has.column has.inside);
      key = has.key;
      cells = has.cells;
    }) u.columns all

-- a column of an upload that fits is new, or stands in the list
old_stands : (es : List Entry) (c : Column) (v : Cells) → found (content es) c.key ≡ Some v → IsSame (content es) c → Has (columns_of es) c.key c.cells
old_stands es c v is same =
    let equal : v ≡ c.cells = subst (λ (o : Option Cells). IfSome o (λ x. x ≡ c.cells)) is same in
    elim (came_from [] (columns_of es) c.key v is) [
      | inl none ↦ absurd (cc none)
      | inr has ↦ subst (Has (columns_of es) c.key) equal has
    ]

stands : (es fs : List Entry) (u : UploadData) → All (IsSame (content es)) u.columns
    → ((c : Column) → Contains (new_columns (content es) u.columns) c → Contains (columns_of fs) c) → StandsIn u (es ++ fs)
stands es fs u same new =
    All-weaker (Contains u.columns) (λ (c : Column). Has (columns_of (es ++ fs)) c.key c.cells) each u.columns (All-contains_itself u.columns)
  where
    has_more : (c : Column) → Contains (columns_of fs) c → Has (columns_of (es ++ fs)) c.key c.cells
    has_more c has = record {
      column = c;
      inside = subst (λ (cs : List Column). Contains cs c) (sym (columns-append es fs)) (Contains-append_right (columns_of es) (columns_of fs) c has);
      key = refl;
      cells = refl;
    }

    old_more : (c : Column) → Has (columns_of es) c.key c.cells → Has (columns_of (es ++ fs)) c.key c.cells
    old_more c has = record {
      column = has.column;
      inside = subst (λ (cs : List Column). Contains cs has.column) (sym (columns-append es fs))
          (Contains-append_left (columns_of es) (columns_of fs) has.column has.inside);
      key = has.key;
      cells = has.cells;
    }

    each : (c : Column) → Contains u.columns c → Has (columns_of (es ++ fs)) c.key c.cells
    each c has = by (found (content es) c.key) refl
      where
        by : (o : Option Cells) → found (content es) c.key ≡ o → Has (columns_of (es ++ fs)) c.key c.cells
        by None is = has_more c (new c (contains_filter (is_new (content es)) u.columns c has (ap is_none is)))
        by (Some v) is = old_more c (old_stands es c v is (All-contains (IsSame (content es)) u.columns c same has))

follows : (shape : Shape) (room : ℕ) (es : List Entry) (u : UploadData) (d : Result (List Column) BookFault) → decide shape room (records es) u ≡ d
    → Follows shape room (records es) u d
follows shape room es u d is = subst (Follows shape room (records es) u) is (outcomes.law shape room (records es) u)

-- all columns of an upload that was stored stand in the list then
pub stored_stands : (shape : Shape) (room pass : ℕ) (u : UploadData) (es : List Entry) → HasNewBy shape room pass u es
    → StandsIn u (es ++ stored_entry pass es u ∷ [])
stored_stands shape room pass u es new =
    stands es (stored_entry pass es u ∷ []) u (fits (new_columns (content es) u.columns) refl)
    (λ c has. subst (λ (cs : List Column). Contains cs c) (sym (append-nil (new_columns (content es) u.columns))) has)
  where
    fits : (cs : List Column) → new_columns (content es) u.columns ≡ cs → All (IsSame (content es)) u.columns
    fits [] is = absurd (let some = new.some in let none = ap length is in omega (arith, some, none))
    fits (c ∷ cs) is = (follows shape room es u (Ok (c ∷ cs)) (new.decides ∙ ap (λ (l : List Column). Ok l) is)).taken.fitting.same

-- so do those of one that is known
pub known_stands : (shape : Shape) (room : ℕ) (u : UploadData) (es : List Entry) → decide shape room (records es) u ≡ Ok [] → StandsIn u es
known_stands shape room u es known =
    let is = follows shape room es u (Ok []) known in
    subst (StandsIn u) (append-nil es) (stands es [] u is.taken.fitting.same (λ c has. subst (λ (cs : List Column). Contains cs c) is.none has))

-- an entry has no column of an upload that stood in the list before it
pub stored_apart : (pass : ℕ) (es : List Entry) (u other : UploadData) → StandsIn other es → IsApart (stored_entry pass es u) other
stored_apart pass es u other all =
    All-weaker (λ (c : Column). is_new (content es) c ≡ true) (λ (c : Column). holds_key c.key other.columns ≡ false)
    (λ c new. by c new (holds_key c.key other.columns) refl) (new_columns (content es) u.columns) (filter_passes (is_new (content es)) u.columns)
  where
    none_of : (o : Option Cells) → is_none o ≡ true → o ≡ None
    none_of None h = refl
    none_of (Some x) h = absurd (true≢false (sym h))

    by : (c : Column) → is_new (content es) c ≡ true → (b : Bool) → holds_key c.key other.columns ≡ b → b ≡ false
    by c new false is = refl
    by c new true is =
        let h = holds c.key other.columns is in
        let there = All-contains (λ (x : Column). Has (columns_of es) x.key x.cells) other.columns h.column all h.inside in
        let none = (none_has c.key [] (columns_of es) (none_of (found (content es) c.key) new)).1 in
        absurd (All-contains (λ (x : Column). x.key ≢ c.key) (columns_of es) there.column none there.inside (there.key ∙ h.key))
