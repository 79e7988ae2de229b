-- What the passes of a book had come to when it was closed.
use Rattle.std.specs.Prelude.{◌≡◌, ◌⊎◌, ℕ, ◌<◌, ◌≤◌, List, Option, Some}
use mathlib.Core.List.{IsPrefix}
use mathlib.Core.Option.{some}
use lib.ListN.{get_elem?}
use Rattle.column_book.specs.declared.entry.Entry.{Entry}
use Rattle.lock_rule.specs.declared.view.Mark.{Mark}
use Rattle.lock_rule.specs.declared.view.Mark.TheVariants.{Carries}
use Rattle.lock_rule.specs.declared.view.Joined.{Joined}
use Rattle.lock_rule.specs.declared.view.View.{View}
use Rattle.lock_rule.specs.Views.{of, Marked}
use Rattle.lock_rule.specs.Rules.{SomeJoined}

-- What the pass of a number had seen begins the closed journal's entries, and it begins with those that the book began
-- with; the entries of its number are those that it had seen. A marked pass had seen all, and the journal is broken. A
-- mark that carries an entry carries the one that may be on the disk, and is that of the number `carrier`.
pub record IsOver (first entries : List Entry) (fault : Option Entry) (carrier number : ℕ) (list : List Entry) (mark : Mark)
    : Type 0 where
  pub begins : IsPrefix list entries
  pub from : IsPrefix first list
  pub mine : of number entries ≡ of number list
  pub all : Marked mark → list ≡ entries
  pub broken : Marked mark → (e : Entry) × (fault ≡ Some e)
  pub carries : (e : Entry) → mark ≡ Carries e → (fault ≡ Some e) × (carrier ≡ number)

-- A journal is closed with the first pass, into which all others were joined. Its entries begin with those that the
-- book began with. Each number from 2 to `made` is of one joined pass. Entries of no number of a pass are none but those
-- that the book began with. Where the journal is broken, one mark carries the entry that may be on the disk.
pub record Closes (first : List Entry) (v : View) (entries : List Entry) (fault : Option Entry) : Type 0 where
  pub begins : IsPrefix first entries
  pub carrier : ℕ
  pub own : IsOver first entries fault carrier v.number v.seen v.mark
  pub joined : (k : ℕ) (p : Joined) → get_elem? v.joined k ≡ some p → IsOver first entries fault carrier p.number p.seen p.mark
  pub others : (k : ℕ) (p : Joined) → get_elem? v.joined k ≡ some p → (1 < p.number) × (p.number ≤ v.made)
  pub each : (n : ℕ) → 1 < n → n ≤ v.made → SomeJoined (λ (p : Joined). p.number ≡ n) v.joined
  pub once : (i k : ℕ) (p q : Joined) → get_elem? v.joined i ≡ some p → get_elem? v.joined k ≡ some q → p.number ≡ q.number → i ≡ k
  pub strangers : (n : ℕ) → (n ≡ 0) ⊎ (v.made < n) → of n entries ≡ of n first
  pub marks : (e : Entry) → fault ≡ Some e → (v.mark ≡ Carries e) ⊎ SomeJoined (λ (p : Joined). p.mark ≡ Carries e) v.joined
