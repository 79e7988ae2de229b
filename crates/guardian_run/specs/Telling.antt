-- What a run tells of its uploads.
use Rattle.std.specs.Prelude.{◌≡◌, ℕ, List, ◌++◌, All, None, Some}
use Rattle.std.specs.List.{flat_map}
use mathlib.Core.List.{IsPrefix}
use Rattle.lg_model.specs.Scenario.{Scenario}
use Rattle.lg_model.specs.declared.column.Key.{Key}
use Rattle.lg_model.specs.Columns.{Column}
use Rattle.column_book.specs.declared.entry.Entry.{Entry}
use Rattle.column_book.specs.Entries.{records, content}
use Rattle.book_journal.specs.declared.applied.ApplyFault.{ApplyFault}
use Rattle.book_journal.specs.declared.applied.ApplyFault.TheVariants as faults
use Rattle.book_journal.specs.Runs.{JournalState, with_fault}
use Rattle.link_deliveries.specs.Deliveries.{delivered}
use Rattle.book_laws.specs.Legal.{IsLegal}
use Rattle.book_laws.specs.Keeping.{Acks, AllHeld, AreAcked}
use Rattle.upload_world.specs.declared.fault.WorkFault.TheVariants.{Refused}
use Rattle.host_workers.specs.declared.sender.Sender.{Sender}
use Rattle.report_text.specs.Report.{report}
use Rattle.report_text.specs.Faults.{disk_fault_line, full_line, conflict_line}
use Rattle.guardian_run.specs.declared.status.Status.{Status}
use Rattle.guardian_run.specs.declared.status.Status.TheVariants as status
use Rattle.guardian_run.specs.declared.telling.Told.{Told}
use Rattle.guardian_run.specs.declared.telling.Told.TheVariants as told
use Rattle.guardian_run.specs.Changes.{Change}
use Rattle.guardian_run.specs.Ending.{EndsWith, EndsWithLine}
use Rattle.guardian_run.specs.Sending.{lines_of, IsFine, IsFirstMet}
use Rattle.guardian_run.specs.Running.{RunSays}

-- ---- the bytes, and the status

abbrev pub text_told : Told → List ℕ
text_told (told.Report text) = text.items
text_told (told.Conflict text) = text.items
text_told (told.Full text) = text.items
text_told (told.DiskFault text) = text.items

-- How the run ends where the sink takes them.
abbrev pub status_told : Told → Status
status_told (told.Report text) = status.Ok
status_told (told.Conflict text) = status.Conflict
status_told (told.Full text) = status.Full
status_told (told.DiskFault text) = status.DiskFault

-- What is told is written: a report is an output, the rest are fault lines.
abbrev pub EndsTold : Told → (sink : Change) → Status → Type 0
EndsTold (told.Report text) sink s = EndsWith text.items sink s
EndsTold (told.Conflict text) sink s = EndsWithLine status.Conflict text.items sink s
EndsTold (told.Full text) sink s = EndsWithLine status.Full text.items sink s
EndsTold (told.DiskFault text) sink s = EndsWithLine status.DiskFault text.items sink s

-- ---- an upload that was not taken

-- No upload of a run is of another shape than the scenario's, and a journal that is broken gets no further one.
abbrev pub CanBeTold : ApplyFault → Type 0
CanBeTold (faults.Conflict key kept came) = Unit {0}
CanBeTold (faults.Full held more) = Unit {0}
CanBeTold faults.DiskFault = Unit {0}
CanBeTold faults.Memory = Unit {0}
CanBeTold (faults.WrongShape kept came) = ⊥
CanBeTold (faults.Broken n) = ⊥

-- What is told of it, after the lines of the uploads that were acknowledged.
abbrev pub TellsStop : (acked : List ℕ) → ApplyFault → Told → Type 0
TellsStop acked (faults.Conflict key kept came) t =
    (status_told t ≡ status.Conflict) × (text_told t ≡ acked ++ conflict_line key kept came)
TellsStop acked (faults.Full held more) t = (status_told t ≡ status.Full)
    × (text_told t ≡ acked ++ full_line held more)
TellsStop acked faults.DiskFault t = (status_told t ≡ status.DiskFault)
    × (text_told t ≡ acked ++ disk_fault_line)
TellsStop acked faults.Memory t = ⊥
TellsStop acked (faults.WrongShape kept came) t = ⊥
TellsStop acked (faults.Broken n) t = ⊥

-- What is told of a closed journal and the senders: that it is broken; else the first fault of a sender, in their order;
-- else the report.
abbrev pub Concludes : {D : Type 0} → Scenario → JournalState D → List Sender → Told → Type 0
Concludes w j ss (told.Report text) = (j.fault ≡ None) × All IsFine ss × (text.items ≡ report (content j.entries) w)
Concludes w j ss (told.Conflict text) = (j.fault ≡ None) × ((q : ℕ) × (key : Key) × (kept : Column) × (came : Column)
    × IsFirstMet (Refused q (faults.Conflict key kept came)) ss
    × (text.items ≡ flat_map lines_of ss ++ conflict_line key kept came))
Concludes w j ss (told.Full text) = (j.fault ≡ None) × ((q : ℕ) × (held : ℕ) × (more : ℕ)
    × IsFirstMet (Refused q (faults.Full held more)) ss × (text.items ≡ flat_map lines_of ss ++ full_line held more))
Concludes w j ss (told.DiskFault text) = ((e : Entry) × (j.fault ≡ Some e))
    × (text.items ≡ flat_map lines_of ss ++ disk_fault_line)

-- ---- all uploads

-- What the uploads of a run made of the journal that was opened, and what is told of it, at that status.
pub record HasRun {D : Type 0} (rose : Type 0) (w : Scenario) (old new : JournalState D) (s : Status)
    (text : List ℕ) : Type 0 where
  pub acked : Acks
  pub shape : new.shape ≡ old.shape
  pub legal : IsLegal delivered w (records old.entries) (records (with_fault new.entries new.fault))
  pub begins : IsPrefix (records old.entries) (records new.entries)
  pub acks : AreAcked w (records old.entries) (records new.entries) acked
  pub says : RunSays w (records old.entries) (records new.entries)
      (records (with_fault new.entries new.fault)) acked rose s text
  pub repeats : AllHeld w (records old.entries) → s ≡ status.Ok → (new.fault ≡ None) × (new.entries ≡ old.entries)
