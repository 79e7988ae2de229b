-- Words of the steps at the lock.
use Rattle.std.specs.Prelude.{◌<◌, ◌^◌, Result, Ok, Err, ◌≡◌, ℕ, List, [], ◌∷◌, Option, None, Some}
use mathlib.Core.List.{IsPrefix}
use Rattle.atomic_table.specs.Table.{Me}
use Rattle.atomic_table.specs.Seated.{TableId}
use Rattle.atomic_table.specs.declared.shared.Seat.{Seat}
use Rattle.column_book.specs.declared.entry.Entry.{Entry}
use Rattle.book_journal.specs.Runs.{JournalState}
use Rattle.sketchlet_wire.specs.Uploads.{UploadData}
use Rattle.book_journal.specs.declared.applied.Applied.{Applied}
use Rattle.book_journal.specs.declared.applied.Applied.TheVariants.{Stored, Known}
use Rattle.book_journal.specs.declared.applied.ApplyFault.{ApplyFault}
use Rattle.lock_rule.specs.declared.view.Doing.{Doing}
use Rattle.lock_rule.specs.declared.view.Doing.TheVariants.{Idle, Drew, Has}
use Rattle.shared_book.specs.Passes.{seen_after, mark_for}
use Rattle.lock_rule.specs.declared.view.Mark.{Mark}
use Rattle.lock_rule.specs.declared.view.View.{View}
use Rattle.lock_rule.specs.Rules.{Lies}
use Rattle.lock_rule.specs.Views.{of, Marked}

-- A seat of that table, which has four words and one slot.
abbrev pub IsAt : {S : Type 0} → Seat S View → TableId → Type 0
IsAt seat id = (seat.table_id ≡ id) × (id.words ≡ 4) × (id.slots ≡ 1)

abbrev pub IsSameSeat : {S : Type 0} → (old new : Seat S View) → Type 0
IsSameSeat old new = (new.table_id ≡ old.table_id) × (new.id ≡ old.id)

-- The turn of a ticket has come, and the journal is out of the slot.
pub record Taken {D : Type 0} (run : JournalState D → Type 0) (t : ℕ) (m m' : Me (Option (JournalState D)) View)
    (slot : Option (JournalState D)) : Type 0 where
  pub list : List Entry
  pub found : Option Entry
  pub view : m'.0 ≡ record m.0 { doing = Has t list found }
  pub hand : m'.1 ≡ (0, None) ∷ []
  pub lies : Lies (λ (j : JournalState D). j.entries) (λ (j : JournalState D). j.fault) run m.0.seen t list found slot
  pub marked : Marked m.0.mark → (list ≡ m.0.seen) × ((e : Entry) × (found ≡ Some e))
  pub seen : IsPrefix m.0.seen list
  pub mine : of m.0.number list ≡ of m.0.number m.0.seen

-- A pass with nothing in hand that has seen a list.
abbrev pub resting : View → List Entry → Mark → View
resting v list mark = record v { doing = Idle; seen = list; mark = mark }

-- The list and the fault behind the lock, as a pass with the turn knows them.
abbrev pub list_by : Doing → List Entry
list_by Idle = []
list_by (Drew t) = []
list_by (Has t l f) = l

abbrev pub found_by : Doing → Option Entry
found_by Idle = None
found_by (Drew t) = None
found_by (Has t l f) = f

-- A pass after a turn in which its upload had this answer.
abbrev pub after_turn : UploadData → View → Result Applied ApplyFault → View
after_turn u v answer = resting v (seen_after v.number u (list_by v.doing) answer) (mark_for v.number u (list_by v.doing) v.mark answer)

-- Positions fit 32 bits.
abbrev pub StoredFew : Result Applied ApplyFault → Type 0
StoredFew (Ok (Stored p)) = p < 2 ^ 32
StoredFew (Ok Known) = Unit {0}
StoredFew (Err fault) = Unit {0}
