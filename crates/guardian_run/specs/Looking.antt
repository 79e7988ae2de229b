-- What looking at the book's file gives a command.
use Rattle.std.specs.Prelude.{◌≡◌, ◌⊎◌, ℕ, ◌<◌, List, Option, Some, None}
use Rattle.lg_model.specs.Placing.{Shape}
use Rattle.column_book.specs.Entries.{BookState, records, known_of}
use Rattle.book_file.specs.File.{IsBlank}
use Rattle.guardian_run.specs.declared.refusal.Refusal.{Refusal}
use Rattle.guardian_run.specs.declared.refusal.Refusal.TheVariants as refusals
use Rattle.guardian_run.specs.Changes.{DiskChange, DiskHasFailed}
use Rattle.guardian_run.specs.Outcomes.{HasRecords, HasFault}

-- A file that holds this, which a disk that is not honest keeps to itself.
pub record IsHeld (disk : DiskChange) (tells : List ℕ → Type 0) : Type 0 where
  pub file : List ℕ
  pub held : disk.honest → file ≡ disk.seen
  pub is : tells file

-- The file is blank, or this is the book of its records.
abbrev pub IsBookOf : Option BookState → (file : List ℕ) → Type 0
IsBookOf None file = IsBlank file
IsBookOf (Some b) file = (IsBlank file → ⊥) × HasRecords file b.shape (records b.entries)

-- The file has this fault, the disk failed, or memory ran out.
abbrev pub IsFileRefusal : Option Shape → (disk : DiskChange) → Refusal → (file : List ℕ) → Type 0
IsFileRefusal asked disk refusal file =
    ((refusal ≡ refusals.DiskFault) × DiskHasFailed disk) ⊎ ((refusal ≡ refusals.Memory) ⊎ HasFault asked file refusal)

-- Why a sketch of a book is not rebuilt: fewer columns than the width are there, or memory ran out.
pub record IsMissingOf (s e : ℕ) (b : BookState) (known width : ℕ) : Type 0 where
  pub known_is : known ≡ known_of s e b.entries
  pub width_is : width ≡ b.shape.width
  pub few : known < width

abbrev pub IsUnbuiltOf : (s e : ℕ) → BookState → Refusal → Type 0
IsUnbuiltOf s e b (refusals.Missing switch epoch known width) = (switch ≡ s) × (epoch ≡ e)
    × IsMissingOf s e b known width
IsUnbuiltOf s e b refusals.Memory = Unit {0}
IsUnbuiltOf s e b refusals.BadWords = ⊥
IsUnbuiltOf s e b (refusals.BadScenario n why) = ⊥
IsUnbuiltOf s e b refusals.ReadFault = ⊥
IsUnbuiltOf s e b refusals.DiskFault = ⊥
IsUnbuiltOf s e b refusals.NotAJournal = ⊥
IsUnbuiltOf s e b (refusals.WrongShape kept asked) = ⊥
IsUnbuiltOf s e b (refusals.Damaged at) = ⊥
IsUnbuiltOf s e b (refusals.Full held more) = ⊥
IsUnbuiltOf s e b refusals.Blank = ⊥
