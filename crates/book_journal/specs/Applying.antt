-- What an apply answers, and what it leaves.
use Rattle.std.specs.Prelude.{◌≡◌, ◌⊎◌, ℕ, ◌≤◌, List, [], ◌∷◌, ◌++◌, length, None, Some, IsSome, Result, Ok, Err}
use Rattle.lg_model.specs.Columns.{Column}
use Rattle.sketchlet_wire.specs.Uploads.{UploadData}
use Rattle.column_book.specs.declared.fault.BookFault.{BookFault}
use Rattle.column_book.specs.declared.fault.BookFault.TheVariants as book
use Rattle.column_book.specs.Entries.{records}
use Rattle.column_book.specs.Applying.{decide, stored_entry}
use Rattle.book_file.specs.File.{StandsFor}
use Rattle.book_journal.specs.declared.applied.Applied.{Applied}
use Rattle.book_journal.specs.declared.applied.Applied.TheVariants.{Stored, Known}
use Rattle.book_journal.specs.declared.applied.ApplyFault.{ApplyFault}
use Rattle.book_journal.specs.declared.applied.ApplyFault.TheVariants.{Broken, WrongShape, Conflict, Full, Memory, DiskFault}
use Rattle.book_journal.specs.Crashes.{Leaves}
use Rattle.book_journal.specs.Runs.{JournalState, Start, IsRun}

-- No call of the disk failed, and by the journal's records the upload comes to this.
pub record ComesTo {D : Type 0} (u : UploadData) (j : JournalState D) (r : Result (List Column) BookFault)
    : Type 0 where
  pub whole : j.fault ≡ None
  pub decides : decide j.shape j.room (records j.entries) u ≡ r

-- It comes to some new columns.
pub record HasNew {D : Type 0} (pass : ℕ) (u : UploadData) (j : JournalState D) : Type 0 where
  pub comes : ComesTo u j (Ok (stored_entry pass j.entries u).stored.columns)
  pub some : 1 ≤ length (stored_entry pass j.entries u).stored.columns

-- The journal with one entry more; and the journal that met a fault of its disk while it stored an entry.
abbrev pub with_entry : {D : Type 0} → (pass : ℕ) → UploadData → D → JournalState D → JournalState D
with_entry pass u disk j = record j { entries = j.entries ++ stored_entry pass j.entries u ∷ []; disk = disk }

abbrev pub broken : {D : Type 0} → (pass : ℕ) → UploadData → D → JournalState D → JournalState D
broken pass u disk j = record j { fault = Some (stored_entry pass j.entries u); disk = disk }

-- What is so at each answer to an upload. Only where some columns are new is memory or the disk wanted, and only then
-- is the journal changed.
abbrev pub Answers : {D : Type 0} → (pass : ℕ) → UploadData → (old new : JournalState D)
    → Result Applied ApplyFault → Type 0
Answers pass u old new (Ok (Stored p)) =
    HasNew pass u old × (p ≡ length old.entries) × (new ≡ with_entry pass u new.disk old)
Answers pass u old new (Ok Known) = ComesTo u old (Ok []) × (new ≡ old)
Answers pass u old new (Err (Broken n)) = IsSome old.fault × (n ≡ length old.entries) × (new ≡ old)
Answers pass u old new (Err (WrongShape kept came)) = ComesTo u old (Err (book.WrongShape kept came)) × (new ≡ old)
Answers pass u old new (Err (Conflict key kept came)) = ComesTo u old (Err (book.Conflict key kept came)) × (new ≡ old)
Answers pass u old new (Err (Full held more)) = ComesTo u old (Err (book.Full held more)) × (new ≡ old)
Answers pass u old new (Err Memory) = HasNew pass u old × (new ≡ old)
Answers pass u old new (Err DiskFault) = HasNew pass u old × (new ≡ broken pass u new.disk old)

-- The file stands for the journal's records, or for these and the one of the upload.
abbrev pub IsBefore : {D : Type 0} → JournalState D → List ℕ → Type 0
IsBefore j c = StandsFor j.shape (records j.entries) c

abbrev pub IsAfter : {D : Type 0} → (pass : ℕ) → UploadData → JournalState D → List ℕ → Type 0
IsAfter pass u j c = StandsFor j.shape (records (j.entries ++ stored_entry pass j.entries u ∷ [])) c

-- What a crash during the call leaves.
abbrev pub IsDuring : {D : Type 0} → (pass : ℕ) → UploadData → JournalState D
    → Result Applied ApplyFault → List ℕ → Type 0
IsDuring pass u j (Ok (Stored p)) c = IsBefore j c ⊎ IsAfter pass u j c
IsDuring pass u j (Ok Known) c = IsBefore j c
IsDuring pass u j (Err (Broken n)) c = IsBefore j c
IsDuring pass u j (Err (WrongShape kept came)) c = IsBefore j c
IsDuring pass u j (Err (Conflict key kept came)) c = IsBefore j c
IsDuring pass u j (Err (Full held more)) c = IsBefore j c
IsDuring pass u j (Err Memory) c = IsBefore j c
IsDuring pass u j (Err DiskFault) c = IsBefore j c ⊎ IsAfter pass u j c

-- What a crash after it leaves: at `Stored` the new record is there.
abbrev pub IsThen : {D : Type 0} → (pass : ℕ) → UploadData → JournalState D
    → Result Applied ApplyFault → List ℕ → Type 0
IsThen pass u j (Ok (Stored p)) c = IsAfter pass u j c
IsThen pass u j (Ok Known) c = IsBefore j c
IsThen pass u j (Err (Broken n)) c = IsBefore j c
IsThen pass u j (Err (WrongShape kept came)) c = IsBefore j c
IsThen pass u j (Err (Conflict key kept came)) c = IsBefore j c
IsThen pass u j (Err (Full held more)) c = IsBefore j c
IsThen pass u j (Err Memory) c = IsBefore j c
IsThen pass u j (Err DiskFault) c = IsBefore j c ⊎ IsAfter pass u j c

-- What an apply does, whatever it answers. On an honest disk, where no call of it had failed, a crash leaves what is
-- said above. Every run of the journal goes on.
pub record Applies {D : Type 0} (honest : D → Type 0) (seen : D → List ℕ) (images : D → List ℕ → Type 0)
    (moment : D → ℕ) (since : D → ℕ → List ℕ → Type 0) (pass : ℕ) (u : UploadData) (old new : JournalState D)
    (result : Result Applied ApplyFault) : Type 0 where
  pub answers : Answers pass u old new result
  pub crash : honest old.disk → old.fault ≡ None → Leaves moment since (IsDuring pass u old result) old.disk new.disk
  pub now : honest old.disk → old.fault ≡ None → (c : List ℕ) → images new.disk c → IsThen pass u old result c
  pub runs : (s : Start D) → IsRun honest seen images moment since s old → IsRun honest seen images moment since s new
