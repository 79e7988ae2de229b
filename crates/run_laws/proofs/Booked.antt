-- What booking uploads one after the other comes to, where their columns are of the shape's size and agree.
use Rattle.std.specs.Prelude.{◌≡◌, ℕ, ◌+◌, ◌<◌, ◌≤◌, List, [], ◌∷◌, ◌++◌, All, length, fold, Option, Some, IfSome, Result, Ok, Err}
use Rattle.std.specs.List.{AllByRecursion}
use Rattle.std.proofs.Common.{refl, sym, ap, ◌∙◌, subst, arith, append-nil, length-append}
use Rattle.std.proofs.lemmas.List.{map-append}
use Rattle.std.proofs.lemmas.List.Elements.{All-from_recursion}
use Rattle.std.proofs.lemmas.Grind.{flat_map-append, fold-append}
use Rattle.lg_model.specs.declared.column.Key.{Key}
use Rattle.lg_model.specs.Placing.{Shape}
use Rattle.lg_model.specs.Columns.{Cells, Column, dims_of}
use Rattle.lg_model.specs.Answer.{key_cmp, Content, with_column, found}
use Rattle.lg_model.proofs.Maps.{InOrder}
use Rattle.sketchlet_wire.specs.Uploads.{UploadData, IsUpload, no_column}
use Rattle.column_book.specs.declared.entry.Entry.{Entry}
use Rattle.column_book.specs.declared.fault.BookFault.{BookFault}
use Rattle.column_book.specs.declared.fault.BookFault.TheVariants.{WrongShape, Conflict, Full}
use Rattle.column_book.specs.Entries.{records, columns_in, columns_of, content}
use Rattle.column_book.specs.Applying.{decide, entry_with, with_new, after_decision}
use Rattle.column_book.specs.Outcomes.{Follows}
use Rattle.column_book.proofs.Joins as joins
use Rattle.column_book.proofs.Outcomes as outcomes
use Rattle.run_laws.specs.Booking.{booked_by, with_upload}
use Rattle.run_laws.proofs.Found.{agrees_all}
use Rattle.run_laws.proofs.Insertions.{grows, longer, join_inserts}

-- a column of that size, whose counters are the only ones that may stand under its key
pub record IsGood (shape : Shape) (may : Key → Cells → Type 0) (c : Column) : Type 0 where
  pub sized : c.dims ≡ dims_of shape
  pub kept : may c.key c.cells
  pub sole : (v : Cells) → may c.key v → v ≡ c.cells

-- entries whose columns all have different keys and counters that may stand there, and for which there is room
pub record IsSound (may : Key → Cells → Type 0) (room : ℕ) (es : List Entry) : Type 0 where
  pub knows : (q : Key) → IfSome (found (content es) q) (may q)
  pub each : length (columns_of es) ≡ length (content es)
  pub few : length (columns_of es) ≤ room

-- a booking that comes to this content, or is too much for the room
abbrev pub Comes : (room : ℕ) → Content → Result (List Entry) BookFault → Type 0
Comes room all (Err (WrongShape kept came)) = ⊥
Comes room all (Err (Conflict key kept came)) = ⊥
Comes room all (Err (Full held more)) = room < length all
Comes room all (Ok es) = (content es ≡ all) × (length all ≤ room)

ordered : (es : List Entry) → InOrder key_cmp (content es)
ordered es = joins.in_order [] (columns_of es) tt

columns_more : (es : List Entry) (e : Entry) → length (columns_of (es ++ e ∷ [])) ≡ length (columns_of es) + length e.stored.columns
columns_more es e =
    ap (λ (rs : List UploadData). length (columns_in rs)) (map-append (λ (x : Entry). x.stored) es (e ∷ []))
    ∙ ap length (flat_map-append (λ (r : UploadData). r.columns) (records es) (e.stored ∷ [])
    ∙ ap (λ (cs : List Column). columns_of es ++ cs) (append-nil e.stored.columns))
    ∙ length-append (columns_of es) e.stored.columns

has_it : (m : Content) (k : Key) (v : Cells) (P : Cells → Type 0) → found m k ≡ Some v → IfSome (found m k) P → P v
has_it m k v P is h = subst (λ (o : Option Cells). IfSome o P) is h

module _ (shape : Shape) (room pass : ℕ) (may : Key → Cells → Type 0) where
  -- the content with an upload's columns
  abbrev with_all : List Entry → List Column → Content
  with_all es cs = fold with_column (content es) cs

  -- what becomes of one upload
  abbrev One : List Entry → UploadData → Result (List Entry) BookFault → Type 0
  One es u (Err (WrongShape kept came)) = ⊥
  One es u (Err (Conflict key kept came)) = ⊥
  One es u (Err (Full held more)) = room < length (with_all es u.columns)
  One es u (Ok new) = (content new ≡ with_all es u.columns) × ((length (columns_of new) ≡ length (content new)) × (length (columns_of new) ≤ room))

  joined : (es : List Entry) (u : UploadData) (new : List Column) → decide shape room (records es) u ≡ Ok new →
      content (with_new es pass u new) ≡ with_all es u.columns
  joined es u new is =
      ap (λ (d : Result (List Column) BookFault). content (after_decision es pass u d)) (sym is) ∙ (joins.law shape room es pass u new is).joined
      ∙ join_inserts (content es) u.columns (ordered es)

  one_by : (es : List Entry) (u : UploadData) → IsSound may room es → All (IsGood shape may) u.columns → IsUpload u.columns →
      (d : Result (List Column) BookFault) →
      decide shape room (records es) u ≡ d → Follows shape room (records es) u d → One es u (booked_by es pass u d)
  one_by es u sound good is (Err (WrongShape kept came)) same f =
      let bad = f.1.0 in
      absurd (bad.other (ap (λ (c : Column). c.dims) (sym bad.is) ∙ (good bad.at no_column bad.inside).sized))
  one_by es u sound good is (Err (Conflict key kept came)) same f =
      let here : IsGood shape may came = subst (IsGood shape may) f.is (good f.at no_column f.inside) in
      let there : may key kept.cells = has_it (content es) key kept.cells (may key) f.has (sound.knows key) in
      absurd (f.other (here.sole kept.cells (subst (λ (k : Key). may k kept.cells) (sym f.under) there)))
  one_by es u sound good is (Err (Full held more)) same f =
      let over = f.over in
      let has = f.has in
      let brings = f.brings in
      let each = sound.each in
      let long = longer (content es) u.columns (ordered es) is in
      omega (arith, over, has, brings, each, long)
  one_by es u sound good is (Ok []) same f = (joined es u [] same, (sound.each, sound.few))
  one_by es u sound good is (Ok (c ∷ cs)) same f =
      let all = joined es u (c ∷ cs) same in
      let long = longer (content es) u.columns (ordered es) is in
      let is_long = ap length all in
      let more = columns_more es (entry_with pass u (c ∷ cs)) in
      let new = ap length f.is in
      let each = sound.each in
      let left = f.taken.room_left in
      (all, (omega (arith, long, is_long, more, new, each), omega (arith, more, new, left)))

  one : (es : List Entry) (u : UploadData) → IsSound may room es → All (IsGood shape may) u.columns → IsUpload u.columns →
      One es u (booked_by es pass u (decide shape room (records es) u))
  one es u sound good is = one_by es u sound good is (decide shape room (records es) u) refl (outcomes.law shape room (records es) u)

  after_fault : (f : BookFault) (us : List UploadData) → fold (with_upload shape room pass) (Err f) us ≡ Err f
  after_fault f [] = refl
  after_fault f (u ∷ us) = after_fault f us

  too_much : (f : BookFault) (es : List Entry) (u : UploadData) (rest : List Column) → One es u (Err f) →
      Comes room (fold with_column (with_all es u.columns) rest) (Err f)
  too_much (WrongShape kept came) es u rest h = absurd h
  too_much (Conflict key kept came) es u rest h = absurd h
  too_much (Full held more) es u rest h =
      let low = grows (with_all es u.columns) rest (joins.in_order (content es) u.columns (ordered es)) in
      omega (arith, h, low)

  knows_more : (es new : List Entry) (cs : List Column) → content new ≡ with_all es cs → IsSound may room es → All (IsGood shape may) cs → (q : Key) →
      IfSome (found (content new) q) (may q)
  knows_more es new cs is sound good q =
      subst (λ (m : Content). IfSome (found m q) (may q)) (sym is)
      (agrees_all may q cs (content es) (λ i d inside. (good i d inside).kept) (sound.knows q))

  split : (P : Column → Type 0) (xs ys : List Column) → AllByRecursion P (xs ++ ys) → AllByRecursion P xs × AllByRecursion P ys
  split P [] ys all = (tt, all)
  split P (x ∷ xs) ys all = let rest = split P xs ys all.1 in ((all.0, rest.0), rest.1)

  pub comes : (us : List UploadData) (es : List Entry) → IsSound may room es → AllByRecursion (IsGood shape may) (columns_in us) →
      AllByRecursion (λ (u : UploadData). IsUpload u.columns) us →
      Comes room (with_all es (columns_in us)) (fold (with_upload shape room pass) (Ok es) us)
  comes [] es sound good each = let n = sound.each in let few = sound.few in (refl, omega (arith, n, few))
  comes (u ∷ us) es sound good each =
      by (booked_by es pass u (decide shape room (records es) u)) (one es u sound here each.0) (λ new s. comes us new s parts.1 each.1)
    where
      parts : AllByRecursion (IsGood shape may) u.columns × AllByRecursion (IsGood shape may) (columns_in us)
      parts = split (IsGood shape may) u.columns (columns_in us) good

      here : All (IsGood shape may) u.columns
      here = All-from_recursion (IsGood shape may) u.columns parts.0

      whole : fold with_column (with_all es u.columns) (columns_in us) ≡ with_all es (columns_in (u ∷ us))
      whole = sym (fold-append with_column (content es) u.columns (columns_in us))

      by : (r : Result (List Entry) BookFault) → One es u r →
          ((new : List Entry) → IsSound may room new → Comes room (with_all new (columns_in us)) (fold (with_upload shape room pass) (Ok new) us)) →
          Comes room (with_all es (columns_in (u ∷ us))) (fold (with_upload shape room pass) r us)
      by (Err f) h rest =
          subst (Comes room (with_all es (columns_in (u ∷ us)))) (sym (after_fault f us))
          (subst (λ (m : Content). Comes room m (Err f)) whole (too_much f es u (columns_in us) h))
      by (Ok new) h rest =
          subst (λ (m : Content). Comes room m (fold (with_upload shape room pass) (Ok new) us))
          (ap (λ (m : Content). fold with_column m (columns_in us)) h.0 ∙ whole)
          (rest new (record { knows = knows_more es new u.columns h.0 sound here; each = h.1.0; few = h.1.1 }))
