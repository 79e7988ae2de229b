-- What reading the file of a disk answers.
use Rattle.std.specs.Prelude.{◌≡◌, ℕ, ◌≤◌, List, take, length, Option, None, Some, Result, Ok, Err, ⊤}
use Rattle.lg_base.specs.Causes.{Rose}
use Rattle.lg_model.specs.Placing.{Shape}
use Rattle.column_book.specs.declared.book.TheConstants.{ROOM}
use Rattle.column_book.specs.Entries.{BookState, records}
use Rattle.book_file.specs.declared.found.OpenFault.{OpenFault}
use Rattle.book_file.specs.declared.found.OpenFault.TheVariants.{DiskFault, NotAJournal, WrongShape, Damaged, Full, Memory}
use Rattle.book_file.specs.File.{IsBlank, StandsFor}
use Rattle.book_file.specs.Found.{Finds, Suits, book_of, count_of}
use Rattle.book_file.specs.Walk.{WalkState, Fed}

-- Some file was read of which this is so. Where the disk is honest, it is what a read gives.
pub record Reads (honest : Type 0) (seen : List ℕ) (tells : List ℕ → Type 0) : Type 0 where
  pub file : List ℕ
  pub held : honest → file ≡ seen
  pub told : tells file

-- A walk was fed some bytes. Where the disk is honest, they are the first of what a read gives.
pub record IsFed (honest : Type 0) (seen : List ℕ) (old new : WalkState) : Type 0 where
  pub bytes : List ℕ
  pub held : honest → bytes ≡ take (length bytes) seen
  pub fed : Fed old new bytes

-- A file that isn't blank stands for the records of this book, which has the asked shape and room for ROOM columns.
pub record HoldsBook (asked : Option Shape) (b : BookState) (file : List ℕ) : Type 0 where
  pub stands : StandsFor b.shape (records b.entries) file
  pub written : IsBlank file → ⊥
  pub few : count_of (records b.entries) ≤ ROOM
  pub is : b ≡ book_of b.shape ROOM (records b.entries)
  pub suits : Suits asked b.shape

-- What a look answers of a file, where a shape may be asked for: none where it is blank, its book, or its first fault.
-- Memory that ran out and a fault of the disk say nothing of the file.
abbrev pub HasFound : Option Shape → List ℕ → Result (Option BookState) OpenFault → Type 0
HasFound asked file (Ok None) = IsBlank file
HasFound asked file (Ok (Some b)) = HoldsBook asked b file
HasFound asked file (Err DiskFault) = ⊤
HasFound asked file (Err NotAJournal) = Finds asked ROOM file (Err NotAJournal)
HasFound asked file (Err (WrongShape kept other)) = Finds asked ROOM file (Err (WrongShape kept other))
HasFound asked file (Err (Damaged at)) = Finds asked ROOM file (Err (Damaged at))
HasFound asked file (Err (Full held more)) = Finds asked ROOM file (Err (Full held more))
HasFound asked file (Err Memory) = ⊤

-- A look answers so of the file of a disk.
abbrev pub Looks : Option Shape → (honest : Type 0) → (seen : List ℕ) → Result (Option BookState) OpenFault → Type 0
Looks asked honest seen result = Reads honest seen (λ (file : List ℕ). HasFound asked file result)

-- The count of faults does not fall, and a fault of the disk is told only where it rose or stands at its last value.
pub record FaultRose {T : Type 0} (before now : ℕ) (result : Result T OpenFault) : Type 0 where
  pub later : before ≤ now
  pub cause : result ≡ Err DiskFault → Rose before now
