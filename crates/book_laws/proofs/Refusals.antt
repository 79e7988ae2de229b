-- Why an upload of a run is refused.
use Rattle.std.specs.Prelude.{◌≡◌, ℕ, ◌<◌, List, [], ◌++◌, length, fold, Contains, Option, Some, None, Err}
use Rattle.std.specs.Option.{option_or}
use Rattle.std.proofs.Common.{refl, sym, ap, ◌∙◌, subst, arith, inl, inr}
use Rattle.std.proofs.lemmas.List.Elements.{All-contains}
use Rattle.lg_model.specs.declared.column.Key.{Key}
use Rattle.lg_model.specs.Scenario.{Scenario}
use Rattle.lg_model.specs.Carrying.{picked}
use Rattle.lg_model.specs.Arriving.{brought_to_all}
use Rattle.lg_model.specs.Columns.{Cells, Column}
use Rattle.lg_model.specs.Answer.{Content, key_cmp, with_column, found}
use Rattle.lg_model.specs.Joining.{IsFrozen, join}
use Rattle.lg_model.proofs.Maps.{HasKeys, no_longer}
use Rattle.sketchlet_wire.specs.Uploads.{UploadData, no_column}
use Rattle.column_book.specs.declared.book.TheConstants.{ROOM}
use Rattle.column_book.specs.declared.fault.BookFault.{BookFault}
use Rattle.column_book.specs.declared.fault.BookFault.TheVariants.{WrongShape, Conflict, Full}
use Rattle.column_book.specs.Entries.{content_in}
use Rattle.column_book.specs.Applying.{decide}
use Rattle.column_book.specs.Outcomes.{IsConflict, IsPastRoom, Follows}
use Rattle.column_book.proofs.Joins.{keys_total, in_order, join_in_order, found-join}
use Rattle.column_book.proofs.Outcomes as outcomes
use Rattle.scenario_parts.specs.Whole.{IsWhole}
use Rattle.upload_world.specs.Pumps.{Has}
use Rattle.run_laws.specs.Truth.{IsFrozenColumn, book_of}
use Rattle.run_laws.proofs.Agreeing.{cells_at}
use Rattle.run_laws.proofs.Insertions.{longer}
use Rattle.run_laws.proofs.TrueRuns.{true_run}
use Rattle.book_laws.specs.Legal.{Order, AreLegalNext, uploads_at, upload_at}
use Rattle.book_laws.specs.Keeping.{HasKeysOnce, IsClash, IsOverfull, IsCaused}
use Rattle.book_laws.specs.Laws.{LawOfRefusals}
use Rattle.book_laws.proofs.Contents.{came_from, some_found, content_in_order, as_many}
use Rattle.book_laws.proofs.Uploads.{numbered_at, own_columns, own_sized}
use Rattle.book_laws.proofs.Legal.{legal_once, found_from}

-- there is one frozen column of a key
one_frozen : (w : Scenario) (k : Key) (v u : Cells) → IsWhole w → IsFrozen w k v → IsFrozen w k u → v ≡ u
one_frozen w k v u whole a b = cells_at w k v b.switch_at whole.scenario.switches.own a b.switch ∙ sym b.same

module _ (order : Order) (w : Scenario) (before more : List UploadData) (legal : AreLegalNext order w before more) (h q : ℕ)
    (declared : h < length w.hosts) (sent : q < length (uploads_at w h)) where
  abbrev came : List Column
  came = brought_to_all w (picked w)

  abbrev grown : List UploadData
  grown = before ++ more

  abbrev u : UploadData
  u = upload_at w h q

  frozen : IsWhole w → (k : Key) (v : Cells) → Has came k v → IsFrozen w k v
  frozen whole k v has =
      let is = All-contains (IsFrozenColumn w) came has.column (true_run w whole).frozen has.inside in
      subst (λ (x : Cells). IsFrozen w k x) has.cells (subst (λ (x : Key). IsFrozen w x has.column.cells) has.key is.is)

  -- a conflict is with a column of the list that was found
  clash : IsWhole w → (key : Key) (kept new : Column) → IsConflict w.shape grown u key kept new → IsClash w before key kept new
  clash whole key kept new is =
      let brought : Contains came new = subst (Contains came) is.is (own_columns w h q declared sent is.at no_column is.inside) in
      let here : Has came key new.cells = record { column = new; inside = brought; key = is.under; cells = refl } in
      elim (found_from order w before more key kept.cells legal is.has) as (λ _. IsClash w before key kept new) [
        | inl old ↦ record { brought = brought; under = is.under; has = old; named = is.named; other = is.other }
        | inr added ↦ absurd (is.other (one_frozen w key kept.cells new.cells whole (frozen whole key kept.cells added) (frozen whole key new.cells here)))
      ]

  -- ---- how many keys there are

  abbrev both : Content
  both = join (content_in before) (book_of w)

  abbrev IsUnder : Key → Type 0
  IsUnder k = (v : Cells) × (found both k ≡ Some v)

  told : (k : Key) → found both k ≡ option_or (found (book_of w) k) (found (content_in before) k)
  told k = found-join (content_in before) (book_of w) k (in_order [] came tt)

  from_before : (k : Key) (v : Cells) → found (content_in before) k ≡ Some v → IsUnder k
  from_before k v has = by (found (book_of w) k) refl
    where
      by : (o : Option Cells) → found (book_of w) k ≡ o → IsUnder k
      by None none = (v, told k ∙ ap (λ (o : Option Cells). option_or o (found (content_in before) k)) none ∙ has)
      by (Some x) is = (x, told k ∙ ap (λ (o : Option Cells). option_or o (found (content_in before) k)) is)

  from_brought : (k : Key) (v : Cells) → Has came k v → IsUnder k
  from_brought k v has =
      let some = some_found came has.column has.inside in
      let there : found (book_of w) k ≡ Some some.0 = ap (found (book_of w)) (sym has.key) ∙ some.1 in
      (some.0, told k ∙ ap (λ (o : Option Cells). option_or o (found (content_in before) k)) there)

  keys : HasKeys key_cmp (fold with_column (content_in grown) u.columns) both
  keys k v has = elim (came_from (content_in grown) u.columns k v has) as (λ _. IsUnder k) [
    | inl old ↦ elim (found_from order w before more k v legal old) as (λ _. IsUnder k) [
      | inl first ↦ from_before k v first
      | inr added ↦ from_brought k v added
    ]
    | inr new ↦ from_brought k v (record {
      column = new.column;
      inside = All-contains (Contains came) u.columns new.column (own_columns w h q declared sent) new.inside;
      key = new.key;
      cells = new.cells;
    })
  ]

  -- there is no room only where the keys are too many
  overfull : HasKeysOnce before → (held brings : ℕ) → IsPastRoom w.shape ROOM grown u held brings → IsOverfull w before
  overfull once held brings is =
      let over = is.over in
      let has = is.has in
      let adds = is.brings in
      let each = as_many grown (legal_once order w before more legal once) in
      let long = longer (content_in grown) u.columns (content_in_order grown) (numbered_at w h q sent).whole in
      let least = no_longer keys_total (fold with_column (content_in grown) u.columns) both
      (in_order (content_in grown) u.columns (content_in_order grown)) (join_in_order (content_in before) (book_of w) (content_in_order before)) keys in
      omega (arith, over, has, adds, each, long, least)

  caused : IsWhole w → HasKeysOnce before → (fault : BookFault) → Follows w.shape ROOM grown u (Err fault) → IsCaused w before fault
  caused whole once (WrongShape kept new) f =
      let bad = f.1.0 in
      absurd (bad.other (ap (λ (c : Column). c.dims) (sym bad.is) ∙ own_sized w h q declared sent bad.at no_column bad.inside))
  caused whole once (Conflict key kept new) f = clash whole key kept new f
  caused whole once (Full held brings) f = (overfull once held brings f, f.over)

pub law : LawOfRefusals
law order w before list whole once legal h q fault declared sent is =
    let same : decide w.shape ROOM (before ++ legal.more) (upload_at w h q) ≡ Err fault =
    ap (λ (l : List UploadData). decide w.shape ROOM l (upload_at w h q)) (sym legal.begins) ∙ is in
    caused order w before legal.more legal.each h q declared sent whole once fault
    (subst (Follows w.shape ROOM (before ++ legal.more) (upload_at w h q)) same (outcomes.law w.shape ROOM (before ++ legal.more) (upload_at w h q)))
