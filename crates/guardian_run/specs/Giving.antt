-- What a command has done and found when it gives its output or its refusal.
use Rattle.std.specs.Prelude.{◌≡◌, ◌⊎◌, ℕ, ◌≤◌, true, false, List, Option, Some, None, IfSome, Result, Err, IsOk, IfOk}
use Rattle.lg_model.specs.Scenario.{Scenario}
use Rattle.lg_model.specs.Joining.{AgreesWith}
use Rattle.sketchlet_wire.specs.Uploads.{UploadData}
use Rattle.column_book.specs.Entries.{content_in}
use Rattle.scenario_parts.specs.Whole.{IsWhole}
use Rattle.scenario_text.specs.Text.{Fault, reading, IsTaken}
use Rattle.book_file.specs.File.{StandsFor}
use Rattle.run_laws.specs.Truth.{IsTrueBook, IsTrueRun}
use Rattle.guardian_words.specs.declared.commands.Command.{Command}
use Rattle.guardian_words.specs.declared.commands.Command.TheVariants as commands
use Rattle.guardian_run.specs.declared.refusal.Refusal.TheVariants as refusals
use Rattle.guardian_run.specs.Changes.{Change, HasFailed, IsUntouched, DiskChange, DiskHasFailed}
use Rattle.guardian_run.specs.Outcomes.{Outcome, Makes, Comes, WithScenario, reads_text, looks_at_file}

-- ---- commands that need one thing alone

-- The source failed, or memory ran out.
abbrev pub IsUnread : (source : Change) → Outcome → Type 0
IsUnread source outcome = ((outcome ≡ Err refusals.ReadFault) × HasFailed source) ⊎ (outcome ≡ Err refusals.Memory)

-- What a command gives that reads a scenario and runs its network: what it comes to with the scenario, unless the
-- source failed or memory ran out. `said` is what the input says, which a source that does not tell its bytes keeps
-- to itself.
pub record GivesOfText (next : Scenario → Outcome → Type 0) (source : Change) (outcome : Outcome) : Type 0 where
  pub said : Result Scenario Fault
  pub input : IfSome source.old (λ input. reading input ≡ said)
  pub is : IsUnread source outcome ⊎ WithScenario next said outcome
  pub took : IsUnread source outcome ⊎ IfSome source.old (λ input. IsTaken input source.new)
  pub never_falls : source.faults_old ≤ source.faults_new
  pub truth : IsOk outcome → IfOk said IsTrueRun

-- What `make` gives: what it comes to, unless memory ran out.
abbrev pub GivesMade : (rounds : ℕ) → Outcome → Type 0
GivesMade rounds outcome = (outcome ≡ Err refusals.Memory) ⊎ Makes rounds outcome

-- The disk failed, or memory ran out.
abbrev pub IsUnlooked : (disk : DiskChange) → Outcome → Type 0
IsUnlooked disk outcome = ((outcome ≡ Err refusals.DiskFault) × DiskHasFailed disk) ⊎ (outcome ≡ Err refusals.Memory)

-- What a command gives that looks at the book's file: what it comes to with the file, unless the disk failed or
-- memory ran out. `file` is what the file holds, which a disk that is not honest keeps to itself.
pub record GivesOfFile (next : List ℕ → Outcome → Type 0) (disk : DiskChange) (outcome : Outcome) : Type 0 where
  pub file : List ℕ
  pub held : disk.honest → file ≡ disk.seen
  pub is : IsUnlooked disk outcome ⊎ next file outcome
  pub never_falls : disk.faults_old ≤ disk.faults_new

-- ---- all commands

-- The outside failed, or memory ran out, before it was known what the command comes to.
abbrev pub IsFree : Option Command → (source : Change) → (disk : DiskChange) → Outcome → Type 0
IsFree asked source disk outcome =
    ((outcome ≡ Err refusals.ReadFault) × (reads_text asked ≡ true) × HasFailed source)
    ⊎ (((outcome ≡ Err refusals.DiskFault) × (looks_at_file asked ≡ true) × DiskHasFailed disk)
    ⊎ (outcome ≡ Err refusals.Memory))

-- Of each scenario of the file's shape with which the file's records agree, they tell the truth.
abbrev pub IsTrueFile : List ℕ → Type 0
IsTrueFile file = (w : Scenario) (rs : List UploadData) → IsWhole w → StandsFor w.shape rs file →
    AgreesWith w (content_in rs) → IsTrueBook w (content_in rs)

-- What a command writes of the network is true: of the scenario's own run, or of the book.
abbrev pub IsTrueOutput : Option Command → (said : Result Scenario Fault) → (file : List ℕ) → Type 0
IsTrueOutput None said file = Unit {0}
IsTrueOutput (Some commands.Run) said file = Unit {0}
IsTrueOutput (Some (commands.Demo n)) said file = Unit {0}
IsTrueOutput (Some commands.Capture) said file = IfOk said IsTrueRun
IsTrueOutput (Some commands.Ask) said file = IsTrueFile file
IsTrueOutput (Some commands.List) said file = IsTrueFile file
IsTrueOutput (Some (commands.Rebuild s e)) said file = IsTrueFile file
IsTrueOutput (Some (commands.Make n)) said file = Unit {0}

-- The source: a command that reads no text leaves it alone; one that does takes a front of the input that decides it,
-- unless it was cut short.
pub record Draws (asked : Option Command) (short : Type 0) (source : Change) : Type 0 where
  pub unread : reads_text asked ≡ false → IsUntouched source
  pub took : reads_text asked ≡ true → short ⊎ IfSome source.old (λ input. IsTaken input source.new)
  pub never_falls : source.faults_old ≤ source.faults_new

-- What a command gives. `said` is what the input says, and `file` what the book's file holds; a source that does not
-- tell its bytes, and a disk that is not honest, keep them to themselves.
pub record Gives (asked : Option Command) (source : Change) (disk : DiskChange) (outcome : Outcome) : Type 0 where
  pub said : Result Scenario Fault
  pub file : List ℕ
  pub input : IfSome source.old (λ input. reading input ≡ said)
  pub held : disk.honest → file ≡ disk.seen
  pub is : IsFree asked source disk outcome ⊎ Comes asked said file outcome
  pub draws : Draws asked ((outcome ≡ Err refusals.ReadFault) ⊎ (outcome ≡ Err refusals.Memory)) source
  pub disk_never_falls : disk.faults_old ≤ disk.faults_new
  pub truth : IsOk outcome → IsTrueOutput asked said file
