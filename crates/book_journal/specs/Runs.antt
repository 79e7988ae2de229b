-- A journal on a disk, and what a crash may make of its file since an earlier moment.
use Rattle.std.specs.Prelude.{◌≡◌, ◌⊎◌, ℕ, ◌≤◌, List, [], ◌∷◌, ◌++◌, length, Option, None, Some}
use mathlib.Core.List.{IsPrefix}
use Rattle.lg_model.specs.Placing.{Shape}
use Rattle.lg_model.specs.Columns.{dims_of}
use Rattle.sketchlet_wire.specs.ShapeFields.{FitsShape}
use Rattle.sketchlet_wire.specs.Uploads.{UploadData}
use Rattle.column_book.specs.declared.entry.Entry.{Entry}
use Rattle.column_book.specs.declared.book.TheConstants.{ROOM}
use Rattle.column_book.specs.Entries.{BookState, records}
use Rattle.book_file.specs.Between.{IsBetween}
use Rattle.book_file.specs.File.{front, AreRecords, Spells, StandsFor}
use Rattle.book_file.specs.Found.{count_of}
use Rattle.book_journal.specs.Crashes.{IsSynced}

-- A journal: the shape and the room of its book, its entries, the entry that may be on the disk where a call of it
-- failed, and the disk.
pub record JournalState (D : Type 0) : Type 0 where
  pub shape : Shape
  pub room : ℕ
  pub entries : List Entry
  pub fault : Option Entry
  pub disk : D

-- The entries, and one more where one may be on the disk.
abbrev pub with_fault : List Entry → Option Entry → List Entry
with_fault es None = es
with_fault es (Some e) = es ++ e ∷ []

-- Where a run begins: a disk, a moment, the entries of a journal, and a file.
pub record Start (D : Type 0) : Type 0 where
  pub disk : D
  pub moment : ℕ
  pub entries : List Entry
  pub file : List ℕ

-- A run begins at a journal as it is: with its disk, now, with its entries and with what a read gives.
abbrev pub start_of : {D : Type 0} → (D → List ℕ) → (D → ℕ) → JournalState D → Start D
start_of seen moment j = record { disk = j.disk; moment = moment j.disk; entries = j.entries; file = seen j.disk }

-- A journal on an honest disk is a run from a start. Its entries begin with those of the start. A crash since the
-- start left what it might have left before, or a file between the start's entries and the journal's, with the one that
-- may be on the disk. A crash now leaves the journal's entries, or these and that one. Where no call of the disk failed
-- and no entry came, a read gives the start's file.
pub record IsRun {D : Type 0} (honest : D → Type 0) (seen : D → List ℕ) (images : D → List ℕ → Type 0) (moment : D → ℕ)
    (since : D → ℕ → List ℕ → Type 0) (s : Start D) (j : JournalState D) : Type 0 where
  pub told : honest j.disk
  pub early : s.moment ≤ moment j.disk
  pub begins : IsPrefix s.entries j.entries
  pub each : (c : List ℕ) → since j.disk s.moment c
      → IsBetween (StandsFor j.shape) (records s.entries) (records (with_fault j.entries j.fault)) c
  pub before : (t : ℕ) (c : List ℕ) → t ≤ s.moment → since j.disk t c
      → since s.disk t c ⊎ IsBetween (StandsFor j.shape) (records s.entries) (records (with_fault j.entries j.fault)) c
  pub now : (c : List ℕ) → images j.disk c
      → StandsFor j.shape (records j.entries) c ⊎ StandsFor j.shape (records (with_fault j.entries j.fault)) c
  pub reads : j.fault ≡ None → j.entries ≡ s.entries → seen j.disk ≡ s.file

-- The disk of a journal is synced, and its file spells the records.
pub record IsSettled {D : Type 0} (honest : D → Type 0) (seen : D → List ℕ) (images : D → List ℕ → Type 0)
    (j : JournalState D) : Type 0 where
  pub synced : IsSynced honest seen images j.disk
  pub spells : Spells j.shape (records j.entries) (seen j.disk)

-- A list of records that has room, and a gate at `end` after it.
pub record IsPlaced (shape : Shape) (room : ℕ) (rs : List UploadData) (end : ℕ) : Type 0 where
  pub shape_fits : FitsShape shape
  pub records_fit : AreRecords (dims_of shape) rs
  pub few : count_of rs ≤ room
  pub small : room ≤ ROOM
  pub place : end ≡ length (front shape rs)

-- What holds of every journal: its records end in a gate at `end`, and where no call of the disk failed, an honest disk
-- is settled.
pub record IsSound {D : Type 0} (honest : D → Type 0) (seen : D → List ℕ) (images : D → List ℕ → Type 0) (end : ℕ)
    (j : JournalState D) : Type 0 where
  pub placed : IsPlaced j.shape j.room (records j.entries) end
  pub settled : j.fault ≡ None → honest j.disk → IsSettled honest seen images j

-- A book is that of a journal.
abbrev pub HasBook : {D : Type 0} → JournalState D → BookState → Type 0
HasBook j b = (b.shape ≡ j.shape) × (b.room ≡ j.room) × (b.entries ≡ j.entries)
