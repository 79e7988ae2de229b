-- What opening a journal leaves on its disk, and why it is refused.
use Rattle.std.specs.Prelude.{◌≡◌, ◌⊎◌, ℕ, ◌≤◌, List, map, None, Some, Result, Ok, Err, ⊤}
use Rattle.lg_model.specs.Placing.{Shape}
use Rattle.sketchlet_wire.specs.Uploads.{UploadData}
use Rattle.column_book.specs.Entries.{BookState, records}
use Rattle.book_file.specs.declared.found.OpenFault.{OpenFault}
use Rattle.book_file.specs.declared.found.OpenFault.TheVariants.{DiskFault, NotAJournal, WrongShape, Damaged, Full, Memory}
use Rattle.book_file.specs.File.{IsBlank, Spells, StandsFor}
use Rattle.book_file.specs.Found.{Finds, book_of, read_entry}
use Rattle.book_journal.specs.Crashes.{IsSynced}
use Rattle.book_journal.specs.Runs.{JournalState, IsPlaced}

-- The files stand for this list.
abbrev pub AreSettled : Shape → List UploadData → (List ℕ → Type 0) → Type 0
AreSettled shape rs files = (c : List ℕ) → files c → StandsFor shape rs c

-- What opening leaves of an honest disk, whatever the answer. A crash at any moment of it leaves what it might have
-- left at its start, or a file that stands for the list of the file as read; from a disk that was settled, only such a
-- file. A file that isn't blank reads as before, and what a read gives stands for each list that it stood for.
pub record OpenLeaves {D : Type 0} (honest : D → Type 0) (seen : D → List ℕ) (images : D → List ℕ → Type 0)
    (moment : D → ℕ) (since : D → ℕ → List ℕ → Type 0) (shape : Shape) (old new : D) : Type 0 where
  pub still : honest new
  pub later : moment old ≤ moment new
  pub each : (c : List ℕ) → since new (moment old) c
      → images old c ⊎ ((rs : List UploadData) × StandsFor shape rs (seen old) × StandsFor shape rs c)
  pub reads : (IsBlank (seen old) → ⊥) → seen new ≡ seen old
  pub stands_on : (rs : List UploadData) → StandsFor shape rs (seen old) → StandsFor shape rs (seen new)
  pub settled : (rs : List UploadData) → StandsFor shape rs (seen old) → AreSettled shape rs (images old)
      → AreSettled shape rs (since new (moment old))

-- Why a file is refused. A fault of the disk and memory that ran out say nothing of it.
abbrev pub IsRefused : Shape → (room : ℕ) → List ℕ → OpenFault → Type 0
IsRefused shape room file DiskFault = ⊤
IsRefused shape room file NotAJournal = Finds (Some shape) room file (Err NotAJournal)
IsRefused shape room file (WrongShape kept asked) = Finds (Some shape) room file (Err (WrongShape kept asked))
IsRefused shape room file (Damaged at) = Finds (Some shape) room file (Err (Damaged at))
IsRefused shape room file (Full held more) = Finds (Some shape) room file (Err (Full held more))
IsRefused shape room file Memory = ⊤

-- A call of the disk failed, or the program ran out of memory: nothing is wrong with the file.
abbrev pub IsOutside : OpenFault → Type 0
IsOutside fault = (fault ≡ DiskFault) ⊎ (fault ≡ Memory)

-- The disk is synced, and its file spells the records, for which the file stood before.
pub record IsOpened {D : Type 0} (honest : D → Type 0) (seen : D → List ℕ) (images : D → List ℕ → Type 0)
    (shape : Shape) (rs : List UploadData) (old new : D) : Type 0 where
  pub stood : StandsFor shape rs (seen old)
  pub synced : IsSynced honest seen images new
  pub spells : Spells shape rs (seen new)

-- A book that was read: of that shape and room, with entries of pass 0, and with a gate at `end` after its records.
pub record IsRead (shape : Shape) (room : ℕ) (b : BookState) (end : ℕ) : Type 0 where
  pub book : b ≡ book_of shape room (records b.entries)
  pub placed : IsPlaced shape room (records b.entries) end

-- A journal as it is opened: of that shape and room, with entries of pass 0, and with no fault of the disk.
abbrev pub IsNew : {D : Type 0} → Shape → (room : ℕ) → JournalState D → Type 0
IsNew shape room j =
    j ≡ record { shape = shape; room = room; entries = map read_entry (records j.entries); fault = None; disk = j.disk }

-- The disk that opening gives back, in the journal or beside the fault.
abbrev pub disk_of : {D : Type 0} → Result (JournalState D) (OpenFault × D) → D
disk_of (Ok j) = j.disk
disk_of (Err e) = e.1
