-- What a command that never writes to the disk comes to: its output, or why it is refused, by what the input says and
-- what the book's file holds. How `run` ends is said in Running, how `demo` ends in Showing.
use Rattle.std.specs.Prelude.{◌≡◌, ℕ, ◌<◌, ◌≤◌, Bool, true, false, List, length, filter, Option, Some, None, Result}
use Rattle.std.specs.Prelude.{Ok, Err}
use Rattle.lg_model.specs.Placing.{Shape}
use Rattle.lg_model.specs.Scenario.{Scenario}
use Rattle.lg_model.specs.Columns.{dims_of}
use Rattle.lg_model.specs.Answer.{look_in}
use Rattle.sketchlet_wire.specs.Uploads.{UploadData}
use Rattle.sumax_sketch.specs.SketchState.{SketchState}
use Rattle.scenario_parts.specs.Printed.{text_of}
use Rattle.scenario_parts.specs.Whole.{IsWhole}
use Rattle.scenario_text.specs.Text.{Fault}
use Rattle.column_book.specs.declared.book.TheConstants.{ROOM}
use Rattle.column_book.specs.Entries.{content_in, columns_in, is_of}
use Rattle.flow_query.specs.Rebuilt.{IsRebuilt}
use Rattle.book_file.specs.declared.found.OpenFault.TheVariants as faults
use Rattle.book_file.specs.File.{IsBlank, StandsFor}
use Rattle.book_file.specs.Found.{Finds, count_of}
use Rattle.scenario_make.specs.Generator.{generated}
use Rattle.report_text.specs.Report.{report}
use Rattle.guardian_words.specs.declared.commands.Command.{Command}
use Rattle.guardian_words.specs.declared.commands.Command.TheVariants as commands
use Rattle.guardian_run.specs.declared.refusal.Refusal.{Refusal}
use Rattle.guardian_run.specs.declared.refusal.Refusal.TheVariants as refusals
use Rattle.guardian_run.specs.Outputs.{capture_of, list_of, sketch_of}

-- The bytes of an output, or a refusal.
abbrev pub Outcome : Type 0
Outcome = Result (List ℕ) Refusal

-- ---- the command that runs a network alone

-- `capture`: the sketchlets that come to the hosts.
abbrev pub Captures : Scenario → Outcome → Type 0
Captures w outcome = outcome ≡ Ok (capture_of w)

-- ---- the command that needs nothing

-- `make`: the text of the generated scenario.
abbrev pub Makes : (rounds : ℕ) → Outcome → Type 0
Makes rounds outcome = outcome ≡ Ok (text_of (generated rounds))

-- ---- commands that look at the book's file

-- The file stands for these records under that shape, no more than a book has room for.
pub record HasRecords (file : List ℕ) (shape : Shape) (rs : List UploadData) : Type 0 where
  pub stands : StandsFor shape rs file
  pub few : count_of rs ≤ ROOM

-- The file has this fault first, where a shape may be asked for.
abbrev pub HasFault : Option Shape → (file : List ℕ) → Refusal → Type 0
HasFault asked file refusals.NotAJournal = Finds asked ROOM file (Err faults.NotAJournal)
HasFault asked file (refusals.WrongShape kept other) = Finds asked ROOM file (Err (faults.WrongShape kept other))
HasFault asked file (refusals.Damaged at) = Finds asked ROOM file (Err (faults.Damaged at))
HasFault asked file (refusals.Full held more) = Finds asked ROOM file (Err (faults.Full held more))
HasFault asked file refusals.BadWords = ⊥
HasFault asked file (refusals.BadScenario n why) = ⊥
HasFault asked file refusals.ReadFault = ⊥
HasFault asked file refusals.DiskFault = ⊥
HasFault asked file refusals.Memory = ⊥
HasFault asked file (refusals.Missing s e known width) = ⊥
HasFault asked file refusals.Blank = ⊥

-- `ask`: the report on the records of the file under the scenario's shape.
pub record IsAnswer (w : Scenario) (file text : List ℕ) : Type 0 where
  pub rs : List UploadData
  pub has : HasRecords file w.shape rs
  pub is : text ≡ report (content_in rs) w

abbrev pub Asks : (file : List ℕ) → Scenario → Outcome → Type 0
Asks file w (Ok text) = IsAnswer w file text
Asks file w (Err refusal) = HasFault (Some w.shape) file refusal

-- `list`: all columns of the records of the file, whatever its shape.
pub record IsListing (file text : List ℕ) : Type 0 where
  pub shape : Shape
  pub rs : List UploadData
  pub has : HasRecords file shape rs
  pub is : text ≡ list_of (dims_of shape) (content_in rs)

abbrev pub Lists : (file : List ℕ) → Outcome → Type 0
Lists file (Ok text) = IsListing file text
Lists file (Err refusal) = HasFault None file refusal

-- How many columns of a switch and an epoch are in records.
abbrev pub known_in : List UploadData → (s e : ℕ) → ℕ
known_in rs s e = length (filter (is_of s e) (columns_in rs))

-- `rebuild`: the file is not blank, all columns are there, and this is the sketch that has them.
pub record IsRebuilding (s e : ℕ) (file text : List ℕ) : Type 0 where
  pub shape : Shape
  pub rs : List UploadData
  pub has : HasRecords file shape rs
  pub written : IsBlank file → ⊥
  pub all : known_in rs s e ≡ shape.width
  pub sketch : SketchState
  pub rebuilt : IsRebuilt (look_in (content_in rs)) shape s e sketch
  pub is : text ≡ sketch_of s e sketch

-- The file is not blank, and fewer columns than the width are there.
pub record IsMissing (s e : ℕ) (file : List ℕ) (known width : ℕ) : Type 0 where
  pub shape : Shape
  pub rs : List UploadData
  pub has : HasRecords file shape rs
  pub written : IsBlank file → ⊥
  pub known_is : known ≡ known_in rs s e
  pub width_is : width ≡ shape.width
  pub few : known < width

-- Why a sketch is not rebuilt.
abbrev pub IsUnbuilt : (s e : ℕ) → (file : List ℕ) → Refusal → Type 0
IsUnbuilt s e file (refusals.Missing switch epoch known width) = (switch ≡ s) × (epoch ≡ e)
    × IsMissing s e file known width
IsUnbuilt s e file refusals.Blank = IsBlank file
IsUnbuilt s e file refusals.NotAJournal = HasFault None file refusals.NotAJournal
IsUnbuilt s e file (refusals.WrongShape kept other) = ⊥
IsUnbuilt s e file (refusals.Damaged at) = HasFault None file (refusals.Damaged at)
IsUnbuilt s e file (refusals.Full held more) = HasFault None file (refusals.Full held more)
IsUnbuilt s e file refusals.BadWords = ⊥
IsUnbuilt s e file (refusals.BadScenario n why) = ⊥
IsUnbuilt s e file refusals.ReadFault = ⊥
IsUnbuilt s e file refusals.DiskFault = ⊥
IsUnbuilt s e file refusals.Memory = ⊥

abbrev pub Rebuilds : (s e : ℕ) → (file : List ℕ) → Outcome → Type 0
Rebuilds s e file (Ok text) = IsRebuilding s e file text
Rebuilds s e file (Err refusal) = IsUnbuilt s e file refusal

-- ---- all of them

-- Of a command that reads a scenario: its first faulty line, or what the command comes to with it.
abbrev pub WithScenario : (Scenario → Outcome → Type 0) → Result Scenario Fault → Outcome → Type 0
WithScenario next (Err (n, why)) outcome = outcome ≡ Err (refusals.BadScenario n why)
WithScenario next (Ok w) outcome = IsWhole w × next w outcome

-- What a call comes to that was asked for this command, or for none, and not for `run` or `demo`, where `said` is what
-- the input says and `file` what the book's file holds.
abbrev pub Comes : Option Command → (said : Result Scenario Fault) → (file : List ℕ) → Outcome → Type 0
Comes None said file outcome = outcome ≡ Err refusals.BadWords
Comes (Some commands.Run) said file outcome = ⊥
Comes (Some (commands.Demo n)) said file outcome = ⊥
Comes (Some commands.Capture) said file outcome = WithScenario Captures said outcome
Comes (Some commands.Ask) said file outcome = WithScenario (Asks file) said outcome
Comes (Some commands.List) said file outcome = Lists file outcome
Comes (Some (commands.Rebuild s e)) said file outcome = Rebuilds s e file outcome
Comes (Some (commands.Make n)) said file outcome = Makes n outcome

-- The law of outcomes: there is one at most. So each comes exactly where its cause is there.
abbrev pub LawOfOutcomes : Type 0
LawOfOutcomes = (asked : Option Command) (said : Result Scenario Fault) (file : List ℕ) (a b : Outcome) →
    Comes asked said file a → Comes asked said file b → a ≡ b

-- Which commands read a scenario, and which look at the book's file.
abbrev pub reads_text : Option Command → Bool
reads_text None = false
reads_text (Some commands.Run) = true
reads_text (Some (commands.Demo n)) = false
reads_text (Some commands.Capture) = true
reads_text (Some commands.Ask) = true
reads_text (Some commands.List) = false
reads_text (Some (commands.Rebuild s e)) = false
reads_text (Some (commands.Make n)) = false

abbrev pub looks_at_file : Option Command → Bool
looks_at_file None = false
looks_at_file (Some commands.Run) = true
looks_at_file (Some (commands.Demo n)) = true
looks_at_file (Some commands.Capture) = false
looks_at_file (Some commands.Ask) = true
looks_at_file (Some commands.List) = true
looks_at_file (Some (commands.Rebuild s e)) = true
looks_at_file (Some (commands.Make n)) = false

-- The commands that never write to the disk.
abbrev pub reading_command : Option Command → Option Command
reading_command None = None
reading_command (Some commands.Run) = None
reading_command (Some (commands.Demo n)) = None
reading_command (Some commands.Capture) = Some commands.Capture
reading_command (Some commands.Ask) = Some commands.Ask
reading_command (Some commands.List) = Some commands.List
reading_command (Some (commands.Rebuild s e)) = Some (commands.Rebuild s e)
reading_command (Some (commands.Make n)) = Some (commands.Make n)

-- Which commands may write to the disk.
abbrev pub may_write : Option Command → Bool
may_write None = false
may_write (Some commands.Run) = true
may_write (Some (commands.Demo n)) = true
may_write (Some commands.Capture) = false
may_write (Some commands.Ask) = false
may_write (Some commands.List) = false
may_write (Some (commands.Rebuild s e)) = false
may_write (Some (commands.Make n)) = false
