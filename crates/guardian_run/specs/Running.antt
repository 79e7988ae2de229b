-- How `run` ends, and what it leaves on the disk.
use Rattle.std.specs.Prelude.{◌≡◌, ◌⊎◌, ℕ, ◌+◌, ◌<◌, ◌≤◌, List, [], ◌++◌, length, Some, IfSome, Result, Ok, Err}
use Rattle.std.specs.Prelude.{if◌then◌else◌}
use Rattle.std.specs.List.{flat_map, enumerate_from, range_with_len}
use Rattle.lg_base.specs.Causes.{Rose}
use Rattle.lg_model.specs.declared.scenario.HostLine.{HostLine}
use Rattle.lg_model.specs.declared.column.Key.{Key}
use Rattle.lg_model.specs.Scenario.{Scenario}
use Rattle.lg_model.specs.Columns.{Column}
use Rattle.lg_model.specs.Joining.{AreJoinable, join}
use Rattle.sketchlet_wire.specs.Uploads.{UploadData}
use Rattle.scenario_parts.specs.Whole.{IsWhole}
use Rattle.scenario_text.specs.Text.{Fault, reading}
use Rattle.column_book.specs.declared.book.TheConstants.{ROOM}
use Rattle.column_book.specs.declared.fault.BookFault.TheVariants.{Conflict, Full}
use Rattle.column_book.specs.Entries.{content_in}
use Rattle.book_file.specs.File.{IsBlank, StandsFor}
use Rattle.book_file.specs.Found.{count_of}
use Rattle.book_journal.specs.Crashes.{OnlyReads}
use Rattle.book_journal.specs.Opening.{OpenLeaves}
use Rattle.run_laws.specs.Truth.{book_of}
use Rattle.link_deliveries.specs.Deliveries.{delivered}
use Rattle.book_laws.specs.Legal.{uploads_at}
use Rattle.book_laws.specs.Leaving.{IsLeft, IsLeftByFiles}
use Rattle.book_laws.specs.Keeping.{Acks, AllHeld, AreAcked, IsJoined, IsClash, IsOverfull, IsFirstRefusal}
use Rattle.book_laws.specs.Truth.{IsTrueFrom}
use Rattle.report_text.specs.Columns.{acked_line}
use Rattle.report_text.specs.Faults.{read_fault_line, disk_fault_line, no_memory_line, scenario_line, full_line}
use Rattle.report_text.specs.Faults.{conflict_line}
use Rattle.report_text.specs.Report.{report}
use Rattle.guardian_words.specs.declared.commands.Command.TheVariants.{Run}
use Rattle.guardian_run.specs.declared.refusal.Refusal.{Refusal}
use Rattle.guardian_run.specs.declared.status.Status.{Status}
use Rattle.guardian_run.specs.declared.status.Status.TheVariants as status
use Rattle.guardian_run.specs.Changes.{Change, HasFailed}
use Rattle.guardian_run.specs.Refusals.{status_of, fault_line}
use Rattle.guardian_run.specs.Outcomes.{HasFault}
use Rattle.guardian_run.specs.Giving.{Draws}
use Rattle.guardian_run.specs.Ends.{Puts}

-- ---- what is told

-- A line for each acknowledged upload of a host, given with its position, in the order of their numbers.
abbrev pub acked_of : Scenario → Acks → ℕ × HostLine → List ℕ
acked_of w acked (h, host) =
    flat_map (λ q. if acked h q then acked_line host.name q else []) (range_with_len 0 (length (uploads_at w h)))

-- Those of all hosts, host after host in the order of declaration.
abbrev pub acked_lines : Scenario → Acks → List ℕ
acked_lines w acked = flat_map (acked_of w acked) (enumerate_from 0 w.hosts)

-- A brought column has other counters than the column of its key that was found; and the lines that tell it. Of several
-- such columns it is one of the first host whose work stopped.
pub record TellsClash (w : Scenario) (before : List UploadData) (acked : Acks) (text : List ℕ) : Type 0 where
  pub key : Key
  pub kept : Column
  pub came : Column
  pub clash : IsClash w before key kept came
  pub first : IsFirstRefusal delivered w before acked (Conflict key kept came)
  pub is : text ≡ acked_lines w acked ++ conflict_line key kept came

-- The keys that were found and those of the brought columns are together more than a book has room for; and the lines
-- that tell it, with the counts of an upload of the first host whose work stopped.
pub record TellsOverfull (w : Scenario) (before : List UploadData) (acked : Acks) (text : List ℕ) : Type 0 where
  pub held : ℕ
  pub more : ℕ
  pub overfull : IsOverfull w before
  pub no_room : ROOM < held + more
  pub first : IsFirstRefusal delivered w before acked (Full held more)
  pub is : text ≡ acked_lines w acked ++ full_line held more

-- What a run tells that was made from the list `before`, by its status, where a crash leaves `kept` or `full`. With
-- an output all that is brought is there, and the report is on that; else what was acknowledged is told first.
-- `rose`: the disk failed.
abbrev pub RunSays : Scenario → (before kept full : List UploadData) → Acks → (rose : Type 0) → Status →
    (text : List ℕ) → Type 0
RunSays w before kept full acked rose status.Ok text = (kept ≡ full) × IsJoined w before kept
    × (text ≡ report (content_in kept) w)
RunSays w before kept full acked rose status.WriteFault text = (kept ≡ full) × IsJoined w before kept
    × (text ≡ report (content_in kept) w)
RunSays w before kept full acked rose status.Conflict text = (kept ≡ full) × TellsClash w before acked text
RunSays w before kept full acked rose status.Full text = (kept ≡ full) × TellsOverfull w before acked text
RunSays w before kept full acked rose status.DiskFault text = rose × (text ≡ acked_lines w acked ++ disk_fault_line)
RunSays w before kept full acked rose status.NoMemory text = ((kept ≡ full) ⊎ rose) × (text ≡ no_memory_line)
RunSays w before kept full acked rose status.BadWords text = ⊥
RunSays w before kept full acked rose status.BadScenario text = ⊥
RunSays w before kept full acked rose status.ReadFault text = ⊥
RunSays w before kept full acked rose status.NotAJournal text = ⊥
RunSays w before kept full acked rose status.WrongShape text = ⊥
RunSays w before kept full acked rose status.Damaged text = ⊥
RunSays w before kept full acked rose status.Missing text = ⊥

-- Before the first upload: the file has a fault; or the disk failed, or memory ran out.
abbrev pub StartSays : Scenario → (file : List ℕ) → (rose : Type 0) → Status → (text : List ℕ) → Type 0
StartSays w file rose s text =
    ((r : Refusal) × HasFault (Some w.shape) file r × (s ≡ status_of r) × (text ≡ fault_line r))
    ⊎ (((s ≡ status.DiskFault) × rose × (text ≡ disk_fault_line))
    ⊎ ((s ≡ status.NoMemory) × (text ≡ no_memory_line)))

-- Where there is no scenario: the input is none; or the source failed, or memory ran out.
abbrev pub ReadSays : Result Scenario Fault → (source : Change) → Status → (text : List ℕ) → Type 0
ReadSays said source s text =
    ((fault : Fault) × (said ≡ Err fault) × (s ≡ status.BadScenario) × (text ≡ scenario_line fault))
    ⊎ (((s ≡ status.ReadFault) × HasFailed source × (text ≡ read_fault_line))
    ⊎ ((s ≡ status.NoMemory) × (text ≡ no_memory_line)))

-- ---- what is left

-- There was no scenario, and the disk was only read.
pub record IsUnread {D : Type 0} (honest : D → Type 0) (seen : D → List ℕ) (images : D → List ℕ → Type 0)
    (moment : D → ℕ) (since : D → ℕ → List ℕ → Type 0) (said : Result Scenario Fault) (source : Change) (s : Status)
    (text : List ℕ) (old new : D) : Type 0 where
  pub says : ReadSays said source s text
  pub reads : OnlyReads honest seen images moment since old new

-- The book was not opened. A file that isn't blank was only read; `file` is what it holds, which a disk that is not
-- honest keeps to itself.
pub record IsStart {D : Type 0} (honest : D → Type 0) (seen : D → List ℕ) (images : D → List ℕ → Type 0)
    (moment : D → ℕ) (since : D → ℕ → List ℕ → Type 0) (rose : Type 0) (w : Scenario) (s : Status) (text : List ℕ)
    (old new : D) : Type 0 where
  pub file : List ℕ
  pub held : honest old → file ≡ seen old
  pub says : StartSays w file rose s text
  pub leaves : honest old → OpenLeaves honest seen images moment since w.shape old new
  pub reads : honest old → (IsBlank (seen old) → ⊥) → OnlyReads honest seen images moment since old new

-- Uploads were made, from the list `before`, for which the file of an honest disk stood, and for which there was room.
-- What they leave is legal at each moment, file by file too, and each acknowledged upload is in it; what is told of it is
-- true; and where all that is brought was there, the file is as before.
pub record HasUploaded {D : Type 0} (honest : D → Type 0) (seen : D → List ℕ) (images : D → List ℕ → Type 0)
    (moment : D → ℕ) (since : D → ℕ → List ℕ → Type 0) (rose : Type 0) (w : Scenario) (s : Status) (text : List ℕ)
    (old new : D) : Type 0 where
  pub before : List UploadData
  pub kept : List UploadData
  pub full : List UploadData
  pub acked : Acks
  pub stood : honest old → StandsFor w.shape before (seen old)
  pub few : count_of before ≤ ROOM
  pub left : honest old →
      IsLeft (StandsFor w.shape) delivered w before (images old) (images new) (since new (moment old)) kept full
  pub files : honest old →
      IsLeftByFiles (StandsFor w.shape) delivered w before (images old) (images new) (since new (moment old))
  pub read : honest old → StandsFor w.shape kept (seen new) ⊎ StandsFor w.shape full (seen new)
  pub repeats : honest old → (IsBlank (seen old) → ⊥) → AllHeld w before → s ≡ status.Ok → seen new ≡ seen old
  pub acks : AreAcked w before kept acked
  pub says : RunSays w before kept full acked rose s text
  pub truth : IsTrueFrom delivered w before

-- ---- all of it

-- The file stands for a list with which the network's columns agree, and there is room for all.
pub record CanRun (w : Scenario) (file : List ℕ) : Type 0 where
  pub rs : List UploadData
  pub stands : StandsFor w.shape rs file
  pub fits : AreJoinable (content_in rs) (book_of w)
  pub few : count_of rs ≤ ROOM
  pub room : length (join (content_in rs) (book_of w)) ≤ ROOM

-- How a run of a scenario over a disk ends; `text` is what is written.
pub record RunsFrom {D : Type 0} (honest : D → Type 0) (seen : D → List ℕ) (images : D → List ℕ → Type 0)
    (moment : D → ℕ) (since : D → ℕ → List ℕ → Type 0) (faults_of : D → ℕ) (w : Scenario) (sink : Change) (old new : D)
    (s : Status) : Type 0 where
  pub text : List ℕ
  pub is : IsStart honest seen images moment since (Rose (faults_of old) (faults_of new)) w s text old new
      ⊎ HasUploaded honest seen images moment since (Rose (faults_of old) (faults_of new)) w s text old new
  pub puts : Puts s sink text
  pub write : s ≡ status.WriteFault → HasFailed sink
  pub still : honest old → honest new
  pub was : honest new → honest old
  pub never_falls : faults_of old ≤ faults_of new

-- How `run` ends. `said` is what the input says, which a source that does not tell its bytes keeps to itself; `text` is
-- what is written.
pub record RunEnds {D : Type 0} (honest : D → Type 0) (seen : D → List ℕ) (images : D → List ℕ → Type 0)
    (moment : D → ℕ) (since : D → ℕ → List ℕ → Type 0) (faults_of : D → ℕ) (source sink : Change) (old new : D)
    (s : Status) : Type 0 where
  pub said : Result Scenario Fault
  pub text : List ℕ
  pub input : IfSome source.old (λ input. reading input ≡ said)
  pub is : IsUnread honest seen images moment since said source s text old new
      ⊎ ((w : Scenario) × (said ≡ Ok w) × IsWhole w
      × (IsStart honest seen images moment since (Rose (faults_of old) (faults_of new)) w s text old new
      ⊎ HasUploaded honest seen images moment since (Rose (faults_of old) (faults_of new)) w s text old new))
  pub draws : Draws (Some Run) ((s ≡ status.ReadFault) ⊎ (s ≡ status.NoMemory)) source
  pub puts : Puts s sink text
  pub write : s ≡ status.WriteFault → HasFailed sink
  pub still : honest old → honest new
  pub was : honest new → honest old
  pub disk_never_falls : faults_of old ≤ faults_of new
  -- Where nothing of the outside fails, and the book takes what is brought, the status is `Ok` or `NoMemory`.
  pub complete : (w : Scenario) → said ≡ Ok w → honest old → CanRun w (seen old) → (HasFailed source → ⊥)
      → (Rose (faults_of old) (faults_of new) → ⊥) → (HasFailed sink → ⊥) → (s ≡ status.Ok) ⊎ (s ≡ status.NoMemory)
