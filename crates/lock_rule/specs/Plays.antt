-- What each step at the lock tells the pass that takes it.
use Rattle.std.specs.Prelude.{◌≡◌, ◌≢◌, ℕ, ◌+◌, ◌<◌, ◌≤◌, List, [], ◌∷◌, length, Option, None, Some}
use mathlib.Core.List.{IsPrefix}
use Rattle.atomic_table.specs.Table.{Me, Step, rest}
use Rattle.column_book.specs.declared.entry.Entry.{Entry}
use Rattle.lock_rule.specs.declared.view.Doing.TheVariants.{Idle, Drew, Has}
use Rattle.lock_rule.specs.declared.view.Mark.{Mark}
use Rattle.lock_rule.specs.declared.view.Mark.TheVariants.{Clear, Seen, Carries}
use Rattle.lock_rule.specs.declared.view.Joined.{Joined}
use Rattle.lock_rule.specs.declared.view.View.{View}
use Rattle.lock_rule.specs.Views.{of, Marked, longer}
use Rattle.lock_rule.specs.Rules.{Lies}

-- The mark of a pass that gives back a journal with the second fault, where it found the first.
abbrev pub set_mark : Mark → Mark
set_mark Clear = Seen
set_mark Seen = Seen
set_mark (Carries e) = Carries e

abbrev pub mark_after : (found left : Option Entry) → Mark → Mark
mark_after None None m = m
mark_after None (Some e) m = Carries e
mark_after (Some d) h m = set_mark m

-- The first of the joined passes' lists, where there is one.
abbrev pub longer_of : List Entry → List Joined → List Entry
longer_of seen [] = seen
longer_of seen (p ∷ ps) = longer seen p.seen

module _ {J : Type 0} (entries : J → List Entry) (fault : J → Option Entry) (run : J → Type 0) where
  abbrev Knows : Type 0
  Knows = Me (Option J) View

  abbrev At : Type 0
  At = Step (Option J)

  -- The entries and the fault of the journal in the slot that the pass holds.
  abbrev pub entries_in : Option J → List Entry
  entries_in None = []
  entries_in (Some j) = entries j

  abbrev pub fault_in : Option J → Option Entry
  fault_in None = None
  fault_in (Some j) = fault j

  abbrev pub entries_held : List (ℕ × Option J) → List Entry
  entries_held [] = []
  entries_held (x ∷ xs) = entries_in x.1

  abbrev pub fault_held : List (ℕ × Option J) → Option Entry
  fault_held [] = None
  fault_held (x ∷ xs) = fault_in x.1

  -- The turn has come: the slot is taken, with the journal behind the lock.
  pub record Took (t : ℕ) (m m' : Knows) : Type 0 where
    pub list : List Entry
    pub found : Option Entry
    pub slot : Option J
    pub view : m'.0 ≡ record m.0 { doing = Has t list found }
    pub hand : m'.1 ≡ (0, slot) ∷ m.1
    pub lies : Lies entries fault run m.0.seen t list found slot
    pub marked : Marked m.0.mark → (list ≡ m.0.seen) × ((e : Entry) × (found ≡ Some e))
    pub seen : IsPrefix m.0.seen list
    pub mine : of m.0.number list ≡ of m.0.number m.0.seen

  -- Draw: the old value is the ticket.
  abbrev pub drew : At → Knows → ℕ → Knows → Type 0
  drew st m n m' = (0 < n) × (m'.0 ≡ record m.0 { doing = Drew n; begun = m.0.begun + 1 }) × (m'.1 ≡ m.1)

  -- Look: where the ticket is serving, the turn begins.
  abbrev pub looked : At → Knows → ℕ → Knows → Type 0
  looked st m n m' = (t : ℕ) → m.0.doing ≡ Drew t → (n ≤ t) × (n ≢ t → m' ≡ m) × (n ≡ t → Took t m m')

  -- Again: one more call begins, without a ticket of its own.
  abbrev pub began : At → Knows → ℕ → Knows → Type 0
  began st m n m' = (m'.0 ≡ record m.0 { begun = m.0.begun + 1 }) × (m'.1 ≡ m.1)

  -- Commit: the seen list becomes the journal's.
  abbrev pub committed : At → Knows → ℕ → Knows → Type 0
  committed st m n m' = (t : ℕ) (l : List Entry) (f : Option Entry) → m.0.doing ≡ Has t l f
      → (m'.0 ≡ record m.0 { doing = Has t (entries_held m.1) f; seen = entries_held m.1 }) × (m'.1 ≡ m.1)

  -- Mark: the broken mark is set, with the entry where this call broke the journal.
  abbrev pub broke : At → Knows → ℕ → Knows → Type 0
  broke st m n m' = (t : ℕ) (l : List Entry) (f : Option Entry) → m.0.doing ≡ Has t l f
      → (m'.0 ≡ record m.0 { doing = Has t l (fault_held m.1); mark = mark_after f (fault_held m.1) m.0.mark }) × (m'.1 ≡ m.1)

  -- Pass on: the slot is given back, and ticket and turn end.
  abbrev pub passed : At → Knows → ℕ → Knows → Type 0
  passed st m n m' = (t : ℕ) (l : List Entry) (f : Option Entry) → m.0.doing ≡ Has t l f
      → (m'.0 ≡ record m.0 { doing = Idle; seen = l }) × (m'.1 ≡ rest m.1)

  -- Join, in its second step: the seen list becomes the longer one, which begins with both; few passes were joined.
  abbrev pub gained : At → Knows → ℕ → Knows → Type 0
  gained st m n m' = (p : Joined) (ps : List Joined) → m.0.joined ≡ p ∷ ps
      → (m'.0 ≡ record m.0 { seen = longer m.0.seen p.seen }) × (m'.1 ≡ m.1)
      × IsPrefix m.0.seen m'.0.seen × IsPrefix p.seen m'.0.seen × (of m.0.number m'.0.seen ≡ of m.0.number m.0.seen)
      × (length m.0.joined ≤ 64)
