-- How a command ends that never writes to the disk: what it answers and why, what it writes, and what it does to its
-- source and its sink.
use Rattle.std.specs.Prelude.{◌≡◌, ◌⊎◌, ◌↔◌, ℕ, ◌≤◌, true, List, Option, None, IfSome, Result, Ok, Err}
use Rattle.lg_model.specs.Scenario.{Scenario}
use Rattle.scenario_text.specs.Text.{Fault, reading}
use Rattle.report_text.specs.Faults.{read_fault_line, disk_fault_line, no_memory_line}
use Rattle.guardian_words.specs.declared.commands.Command.{Command}
use Rattle.guardian_run.specs.declared.status.Status.{Status}
use Rattle.guardian_run.specs.declared.status.Status.TheVariants as status
use Rattle.guardian_run.specs.Changes.{Change, HasFailed, DiskChange, DiskHasFailed, WritesAll, WritesFront, WritesSome}
use Rattle.guardian_run.specs.Refusals.{status_of, fault_line}
use Rattle.guardian_run.specs.Outcomes.{Outcome, Comes, reads_text, looks_at_file}
use Rattle.guardian_run.specs.Giving.{Draws, IsTrueOutput}

-- ---- kinds of ends

-- There is an output, and all of it or a front was written.
abbrev pub IsOutputEnd : Status → Type 0
IsOutputEnd s = (s ≡ status.Ok) ⊎ (s ≡ status.WriteFault)

-- A status of an outcome: `Ok`, or `WriteFault` where the sink failed, of an output; of a refusal its own.
abbrev pub IsStatusOf : Outcome → Status → Type 0
IsStatusOf (Ok text) s = IsOutputEnd s
IsStatusOf (Err refusal) s = s ≡ status_of refusal

-- The text of an outcome: an output, or a fault line.
abbrev pub text_of : Outcome → List ℕ
text_of (Ok text) = text
text_of (Err refusal) = fault_line refusal

-- The source or the disk failed, or memory ran out, before an outcome was there; and the line that is written then.
abbrev pub IsCutShort : Status → Type 0
IsCutShort s = (s ≡ status.ReadFault) ⊎ ((s ≡ status.DiskFault) ⊎ (s ≡ status.NoMemory))

abbrev pub IsCutShortBy : Status → (text : List ℕ) → Type 0
IsCutShortBy s text =
    ((s ≡ status.ReadFault) × (text ≡ read_fault_line))
    ⊎ (((s ≡ status.DiskFault) × (text ≡ disk_fault_line))
    ⊎ ((s ≡ status.NoMemory) × (text ≡ no_memory_line)))

-- ---- what is answered, and why

-- A status and a text are those of what the call comes to.
pub record IsEndOf (asked : Option Command) (said : Result Scenario Fault) (file : List ℕ) (s : Status)
    (text : List ℕ) : Type 0 where
  pub outcome : Outcome
  pub comes : Comes asked said file outcome
  pub status : IsStatusOf outcome s
  pub text_is : text ≡ text_of outcome

-- Why a status is answered and a text is written, where `asked` is the command that the words ask for, if they are one,
-- `said` is what the input says, and `file` what the book's file holds.
pub record IsAnswered (asked : Option Command) (said : Result Scenario Fault) (file : List ℕ) (source sink : Change)
    (disk : DiskChange)
    (s : Status) (text : List ℕ) : Type 0 where
  -- Not a command: exactly at `BadWords`.
  pub words : s ≡ status.BadWords ↔ asked ≡ None
  -- Unless it was cut short, the call ends as what it comes to,
  pub only : IsCutShortBy s text ⊎ IsEndOf asked said file s text
  -- and whatever it comes to, it ends as that. So each other status comes exactly where its cause is there.
  pub exactly : IsCutShort s ⊎ ((outcome : Outcome) → Comes asked said file outcome → IsStatusOf outcome s)
  -- The outside is at fault only where it failed.
  pub read : s ≡ status.ReadFault → (reads_text asked ≡ true) × HasFailed source
  pub device : s ≡ status.DiskFault → (looks_at_file asked ≡ true) × DiskHasFailed disk
  pub write : s ≡ status.WriteFault → HasFailed sink
  -- Where neither source nor disk nor sink fails, and the call comes to an output, the status is `Ok` or `NoMemory`.
  pub complete : (output : List ℕ) → Comes asked said file (Ok output) → (HasFailed source → ⊥) →
      (DiskHasFailed disk → ⊥) → (HasFailed sink → ⊥)
      → (s ≡ status.Ok) ⊎ (s ≡ status.NoMemory)

-- ---- what is written

-- How much of a text is written at each status: an output whole or, at `WriteFault`, a front of it; a fault line whole,
-- or a front of it where the sink failed.
abbrev pub Wrote : Status → (sink : Change) → (text : List ℕ) → Type 0
Wrote status.Ok sink text = WritesAll sink text
Wrote status.WriteFault sink text = WritesFront sink text
Wrote status.BadWords sink text = WritesSome sink text
Wrote status.BadScenario sink text = WritesSome sink text
Wrote status.ReadFault sink text = WritesSome sink text
Wrote status.DiskFault sink text = WritesSome sink text
Wrote status.NotAJournal sink text = WritesSome sink text
Wrote status.WrongShape sink text = WritesSome sink text
Wrote status.Damaged sink text = WritesSome sink text
Wrote status.Conflict sink text = WritesSome sink text
Wrote status.Full sink text = WritesSome sink text
Wrote status.NoMemory sink text = WritesSome sink text
Wrote status.Missing sink text = WritesSome sink text

-- The sink: so much of this text was written, and nothing else.
pub record Puts (s : Status) (sink : Change) (text : List ℕ) : Type 0 where
  pub written : Wrote s sink text
  pub never_falls : sink.faults_old ≤ sink.faults_new

-- ---- all of it

-- How a call ends that was asked for this command, or for none. `said` is what the input says, which a source that does
-- not tell its bytes keeps to itself; `file` is what the book's file holds, which a disk that is not honest keeps to
-- itself; `text` is what is written.
pub record Ends (asked : Option Command) (source sink : Change) (disk : DiskChange) (s : Status) : Type 0 where
  pub said : Result Scenario Fault
  pub file : List ℕ
  pub text : List ℕ
  pub input : IfSome source.old (λ input. reading input ≡ said)
  pub held : disk.honest → file ≡ disk.seen
  pub answers : IsAnswered asked said file source sink disk s text
  pub draws : Draws asked ((s ≡ status.ReadFault) ⊎ (s ≡ status.NoMemory)) source
  pub puts : Puts s sink text
  pub disk_never_falls : disk.faults_old ≤ disk.faults_new
  -- What is written of the network is true.
  pub truth : IsOutputEnd s → IsTrueOutput asked said file
