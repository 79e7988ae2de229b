-- How `demo` ends: as a run of a generated scenario, with a summary in place of the report.
use Rattle.std.specs.Prelude.{◌≡◌, ◌⊎◌, ◌==◌, ℕ, ◌≤◌, Bool, List, length, count_by}
use Rattle.lg_base.specs.Causes.{Rose}
use Rattle.lg_model.specs.declared.scenario.Ask.{Ask}
use Rattle.lg_model.specs.Scenario.{Scenario, packet_count}
use Rattle.lg_model.specs.Carrying.{picked}
use Rattle.lg_model.specs.Arriving.{brought_to_all}
use Rattle.lg_model.specs.Answer.{Content, answered}
use Rattle.column_book.specs.Entries.{records, content_in}
use Rattle.scenario_make.specs.Generator.{generated}
use Rattle.book_journal.specs.Crashes.{OnlyReads}
use Rattle.book_journal.specs.Runs.{JournalState}
use Rattle.report_text.specs.declared.summary.Summary.{Summary}
use Rattle.report_text.specs.Summary.{summary_lines}
use Rattle.report_text.specs.Faults.{no_memory_line}
use Rattle.guardian_run.specs.declared.status.Status.{Status}
use Rattle.guardian_run.specs.declared.status.Status.TheVariants as status
use Rattle.guardian_run.specs.declared.telling.Told.{Told}
use Rattle.guardian_run.specs.declared.telling.Told.TheVariants as told
use Rattle.guardian_run.specs.Changes.{Change, HasFailed, IsUntouched}
use Rattle.guardian_run.specs.Ends.{IsOutputEnd, Puts}
use Rattle.guardian_run.specs.Running.{IsStart, HasUploaded, CanRun}
use Rattle.guardian_run.specs.Telling.{HasRun}

-- ---- the summary

-- No row of the answer to an ask is known.
abbrev pub is_unknown : Content → Scenario → Ask → Bool
is_unknown content w ask = (answered content w ask).rows_known == 0

-- What a scenario of that many rounds comes to, with a book of this content: the packets that it sends, the sketchlets
-- that come to its hosts, the columns, the asks, and the asks of which no row is known.
abbrev pub summary_of : (rounds : ℕ) → Content → Scenario → Summary
summary_of rounds content w = record {
  rounds = rounds;
  packets = packet_count w.steps;
  arrived = length (brought_to_all w (picked w));
  columns = length content;
  asks = length w.asks;
  unknown = count_by (is_unknown content w) w.asks;
}

abbrev pub summary : (rounds : ℕ) → Content → Scenario → List ℕ
summary rounds content w = summary_lines (summary_of rounds content w)

-- ---- how it ends

-- Uploads were made as by a run, which would tell `line`. What is written is that line, or where a run would write the
-- report, the summary of the same book.
pub record HasShown {D : Type 0} (honest : D → Type 0) (seen : D → List ℕ) (images : D → List ℕ → Type 0)
    (moment : D → ℕ) (since : D → ℕ → List ℕ → Type 0) (rose : Type 0) (rounds : ℕ) (w : Scenario) (s : Status)
    (text : List ℕ) (old new : D) : Type 0 where
  pub line : List ℕ
  pub uploaded : HasUploaded honest seen images moment since rose w s line old new
  pub output : IsOutputEnd s → text ≡ summary rounds (content_in uploaded.kept) w
  pub fault : (IsOutputEnd s → ⊥) → text ≡ line

-- There was no memory for the scenario, and the disk was left alone.
pub record IsUnmade {D : Type 0} (honest : D → Type 0) (seen : D → List ℕ) (images : D → List ℕ → Type 0)
    (moment : D → ℕ) (since : D → ℕ → List ℕ → Type 0) (s : Status) (text : List ℕ) (old new : D) : Type 0 where
  pub starved : s ≡ status.NoMemory
  pub is : text ≡ no_memory_line
  pub reads : OnlyReads honest seen images moment since old new

-- How a run of a scenario of that many rounds over a disk ends that writes the summary; `text` is what is written.
pub record ShowsFrom {D : Type 0} (honest : D → Type 0) (seen : D → List ℕ) (images : D → List ℕ → Type 0)
    (moment : D → ℕ) (since : D → ℕ → List ℕ → Type 0) (faults_of : D → ℕ) (rounds : ℕ) (w : Scenario) (sink : Change)
    (old new : D) (s : Status) : Type 0 where
  pub text : List ℕ
  pub is : IsStart honest seen images moment since (Rose (faults_of old) (faults_of new)) w s text old new
      ⊎ HasShown honest seen images moment since (Rose (faults_of old) (faults_of new)) rounds w s text old new
  pub puts : Puts s sink text
  pub write : s ≡ status.WriteFault → HasFailed sink
  pub still : honest old → honest new
  pub was : honest new → honest old
  pub never_falls : faults_of old ≤ faults_of new

-- How `demo` ends. It has every clause of `run` with the generated scenario, and writes its summary for the report; the
-- source is left alone.
pub record DemoEnds {D : Type 0} (honest : D → Type 0) (seen : D → List ℕ) (images : D → List ℕ → Type 0)
    (moment : D → ℕ) (since : D → ℕ → List ℕ → Type 0) (faults_of : D → ℕ) (rounds : ℕ) (source sink : Change)
    (old new : D) (s : Status) : Type 0 where
  pub text : List ℕ
  pub untouched : IsUntouched source
  pub is : IsUnmade honest seen images moment since s text old new
      ⊎ (IsStart honest seen images moment since (Rose (faults_of old) (faults_of new)) (generated rounds) s text old new
      ⊎ HasShown honest seen images moment since (Rose (faults_of old) (faults_of new)) rounds (generated rounds) s text
      old new)
  pub puts : Puts s sink text
  pub write : s ≡ status.WriteFault → HasFailed sink
  pub still : honest old → honest new
  pub was : honest new → honest old
  pub disk_never_falls : faults_of old ≤ faults_of new
  -- Where nothing of the outside fails, and the book takes what is brought, the status is `Ok` or `NoMemory`.
  pub complete : honest old → CanRun (generated rounds) (seen old) → (Rose (faults_of old) (faults_of new) → ⊥)
      → (HasFailed sink → ⊥) → (s ≡ status.Ok) ⊎ (s ≡ status.NoMemory)

-- ---- what is told on the way

-- What the uploads made of the journal, and what is told of it: as of a run, with the summary for the report.
abbrev pub ShowsTold : {D : Type 0} → (rose : Type 0) → (rounds : ℕ) → Scenario → (old new : JournalState D) → Told → Type 0
ShowsTold rose rounds w old new (told.Report text) =
    ((line : List ℕ) × HasRun rose w old new status.Ok line) × (text.items ≡ summary rounds (content_in (records new.entries)) w)
ShowsTold rose rounds w old new (told.Conflict text) = HasRun rose w old new status.Conflict text.items
ShowsTold rose rounds w old new (told.Full text) = HasRun rose w old new status.Full text.items
ShowsTold rose rounds w old new (told.DiskFault text) = HasRun rose w old new status.DiskFault text.items
