-- What a run adds is true, and so are its answers.
use Rattle.std.specs.Prelude.{◌≡◌, ◌↔◌, ℕ, ◌<◌, List, [], length, drop, Contains, Option, Some, None, IfSome, slice_index_or}
use Rattle.std.specs.Option.{option_or}
use Rattle.std.proofs.Common.{refl, sym, ap, ◌∙◌, subst, inl, inr}
use Rattle.std.proofs.lemmas.List.Elements.{All-contains, All-weaker}
use Rattle.lg_model.specs.declared.column.Key.{Key}
use Rattle.lg_model.specs.declared.scenario.Ask.{Ask}
use Rattle.lg_model.specs.Scenario.{Scenario}
use Rattle.lg_model.specs.Carrying.{picked}
use Rattle.lg_model.specs.Arriving.{brought_to_all}
use Rattle.lg_model.specs.Columns.{Cells}
use Rattle.lg_model.specs.Answer.{Content, found, look_in}
use Rattle.lg_model.specs.Joining.{IsFrozen, AgreesWith}
use Rattle.sketchlet_wire.specs.Uploads.{UploadData}
use Rattle.column_book.specs.Entries.{columns_in, content_in}
use Rattle.column_book.proofs.Joins.{in_order, found-join}
use Rattle.flow_query.specs.Told.{NoneIsKnown}
use Rattle.run_laws.specs.Truth.{IsTrueIn, IsFrozenColumn, NoneArrived, asked_key, book_of, place_key}
use Rattle.run_laws.proofs.Agreeing.{true_book}
use Rattle.run_laws.proofs.Found.{none_has, none_found}
use Rattle.run_laws.proofs.TrueRuns.{true_run}
use Rattle.book_laws.specs.Legal.{IsLegal}
use Rattle.book_laws.specs.Keeping.{IsJoined}
use Rattle.book_laws.specs.Truth.{NoneFound, IsTrueAfter}
use Rattle.book_laws.specs.Laws.{LawOfTrueLists}
use Rattle.book_laws.proofs.Contents.{none_some, if_some, of_if}
use Rattle.book_laws.proofs.Growing as growing
use Rattle.book_laws.proofs.Legal.{found_from}

or_none : (o p : Option Cells) → option_or o p ≡ None → (o ≡ None) × (p ≡ None)
or_none None p h = (refl, h)
or_none (Some v) p h = absurd (none_some v (sym h))

-- ---- a list that has what was found and what is brought

module _ (w : Scenario) (before list : List UploadData) (is : IsJoined w before list) where
  told : (k : Key) → found (content_in list) k ≡ option_or (found (book_of w) k) (found (content_in before) k)
  told k = ap (λ (m : Content). found m k) is.is ∙ found-join (content_in before) (book_of w) k (in_order [] (brought_to_all w (picked w)) tt)

  agrees_by : (P : Cells → Type 0) (o p : Option Cells) → IfSome o P → IfSome p P → IfSome (option_or o p) P
  agrees_by P None p a b = b
  agrees_by P (Some v) p a b = a

  agrees : AgreesWith w (book_of w) → AgreesWith w (content_in before) → AgreesWith w (content_in list)
  agrees new old k = subst (λ (o : Option Cells). IfSome o (IsFrozen w k)) (sym (told k))
      (agrees_by (IsFrozen w k) (found (book_of w) k) (found (content_in before) k) (new k) (old k))

  unknown : (q : Ask) → NoneIsKnown (look_in (content_in list)) w.shape q.switch q.epoch (asked_key w q) ↔ (NoneFound w before q × NoneArrived w q)
  unknown q = (
    (λ none. (
      (λ i low. (none_has (place_key w q i) (columns_in before) [] (parts none i low).1).1),
      (λ i low. (none_has (place_key w q i) (brought_to_all w (picked w)) [] (parts none i low).0).1),
    )),
    (λ none i low.
        told (place_key w q i) ∙ ap (λ (o : Option Cells). option_or o (found (content_in before) (place_key w q i)))
        (none_found (place_key w q i) (brought_to_all w (picked w)) (none.1 i low))
        ∙ none_found (place_key w q i) (columns_in before) (none.0 i low)),
  )
    where
      parts : NoneIsKnown (look_in (content_in list)) w.shape q.switch q.epoch (asked_key w q) → (i : ℕ) → i < w.shape.rows →
          (found (book_of w) (place_key w q i) ≡ None) × (found (content_in before) (place_key w q i) ≡ None)
      parts none i low = or_none (found (book_of w) (place_key w q i)) (found (content_in before) (place_key w q i)) (sym (told (place_key w q i)) ∙ none i low)

  true_after : (q : Ask) → IsTrueIn w (content_in list) q → IsTrueAfter w before list q
  true_after q t =
      let none = unknown q in
      record { is = t; unknown = ((λ h. none.0 (t.exact.rows.0 h)), (λ h. t.exact.rows.1 (none.1 h))) }

pub law : LawOfTrueLists
law order w before whole = record {
  added = λ l legal.
      All-weaker (Contains (brought_to_all w (picked w))) (IsFrozenColumn w)
      (λ c has. All-contains (IsFrozenColumn w) (brought_to_all w (picked w)) c (true_run w whole).frozen has)
      (columns_in (drop (length before) l)) (growing.law order w before l legal).adds;
  agrees = λ old l legal k. if_some (found (content_in l) k) (IsFrozen w k) (λ v h. legal_agrees old l legal k v h);
  answers = λ old l joined i d inside.
      true_after w before l joined (slice_index_or w.asks i d)
      ((true_book w (content_in l) whole (agrees w before l joined (true_run w whole).agrees old)).answers i d inside);
}
  where
    legal_agrees : AgreesWith w (content_in before) → (l : List UploadData) → IsLegal order w before l → (k : Key) (v : Cells) →
        found (content_in l) k ≡ Some v → IsFrozen w k v
    legal_agrees old l legal k v h =
        elim (found_from order w before legal.more k v legal.each (ap (λ (x : List UploadData). found (content_in x) k) (sym legal.begins) ∙ h))
        as (λ _. IsFrozen w k v) [
          | inl there ↦ of_if (found (content_in before) k) (IsFrozen w k) v (old k) there
          | inr new ↦
              let is = All-contains (IsFrozenColumn w) (brought_to_all w (picked w)) new.column (true_run w whole).frozen new.inside in
              subst (IsFrozen w k) new.cells (subst (λ (x : Key). IsFrozen w x new.column.cells) new.key is.is)
        ]
