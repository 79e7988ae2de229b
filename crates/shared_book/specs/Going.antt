-- What stays of a journal behind a lock, whoever applies uploads to it.
use Rattle.std.specs.Prelude.{◌≡◌, ℕ, ◌≤◌, List, Option, None, Some}
use Rattle.lg_base.specs.Causes.{Rose}
use Rattle.column_book.specs.declared.entry.Entry.{Entry}
use Rattle.book_journal.specs.Runs.{JournalState, IsRun, start_of}

-- The journal goes on from another: it has its shape and room, and is on its disk. The disk's count of faults did not
-- fall, and where the journal is broken it rose, or stands at its last value. On an honest disk the journal is a run
-- from where the other one stood: with its disk, at its moment, with its entries and with what a read gave.
pub record GoesOn {D : Type 0} (honest : D → Type 0) (seen : D → List ℕ) (images : D → List ℕ → Type 0) (moment : D → ℕ)
    (since : D → ℕ → List ℕ → Type 0) (faults : D → ℕ) (from now : JournalState D) : Type 0 where
  pub shape : now.shape ≡ from.shape
  pub room : now.room ≡ from.room
  pub still : honest from.disk → honest now.disk
  pub was : honest now.disk → honest from.disk
  pub later : faults from.disk ≤ faults now.disk
  pub rose : (e : Entry) → now.fault ≡ Some e → Rose (faults from.disk) (faults now.disk)
  pub runs : honest from.disk → IsRun honest seen images moment since (start_of seen moment from) now

-- The same, where it is told what the journal goes on from.
abbrev pub GoesFrom : {D : Type 0} (honest : D → Type 0) (seen : D → List ℕ) (images : D → List ℕ → Type 0) (moment : D → ℕ)
    (since : D → ℕ → List ℕ → Type 0) (faults : D → ℕ) → (from : Option (JournalState D)) → (now : JournalState D) → Type 0
GoesFrom honest seen images moment since faults None now = ⊥
GoesFrom honest seen images moment since faults (Some from) now = GoesOn honest seen images moment since faults from now
