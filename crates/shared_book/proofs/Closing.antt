-- The journal that a closed table has.
use Rattle.std.proofs.Common.{◌≡◌, ℕ, List, Option, None, Some, sym, ◌∙◌, subst}
use mathlib.Core.Option.{some, some-injective}
use lib.ListN.{get_elem?}
use Rattle.book_journal.specs.Runs.{JournalState}
use Rattle.lock_rule.specs.declared.view.View.{View}
use Rattle.lock_rule.specs.Closing.{Closes}
use Rattle.lock_rule.proofs.Passing.{Ended}
use Rattle.shared_book.proofs.Turning.{Goes}

module _ {D : Type 0} (honest : D → Type 0) (seen : D → List ℕ) (images : D → List ℕ → Type 0) (moment : D → ℕ)
    (since : D → ℕ → List ℕ → Type 0) (faults : D → ℕ) where
  abbrev pub EndedAt : JournalState D → View → List (Option (JournalState D)) → Type 0
  EndedAt key v slots = Ended (λ (j : JournalState D). j.entries) (λ (j : JournalState D). j.fault)
      (Goes honest seen images moment since faults key) key.entries v slots

  pub never_none : (key : JournalState D) (v : View) (slots : List (Option (JournalState D))) (o : Option (JournalState D)) → EndedAt key v slots
      → get_elem? slots 0 ≡ some o → o ≡ None → ⊥
  never_none key v slots o e at is = let k : Some e.journal ≡ None = some-injective (Some e.journal) o (sym e.there ∙ at) ∙ is in absurd (cc (k))

  pub record Came (first : JournalState D) (v : View) (j : JournalState D) : Type 0 where
    pub closes : Closes first.entries v j.entries j.fault
    pub goes : Goes honest seen images moment since faults first j

  pub closed : (key first : JournalState D) (v w : View) (slots : List (Option (JournalState D))) (o : Option (JournalState D)) (j : JournalState D)
      → key ≡ first → v ≡ w → EndedAt key v slots → get_elem? slots 0 ≡ some o → o ≡ Some j → Came first w j
  closed key first v w slots o j same view e at is =
      let k : Some e.journal ≡ Some j = some-injective (Some e.journal) o (sym e.there ∙ at) ∙ is in
      let journal : e.journal ≡ j = cc (k) in
      subst (λ (x : JournalState D × View × JournalState D). Came x.0 x.1 x.2) (λ i. (same i, view i, journal i)) record { closes = e.closes; goes = e.runs }
