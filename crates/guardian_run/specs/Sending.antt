-- What the hosts of a run send, and what became of it.
use Rattle.std.specs.Prelude.{◌≡◌, ℕ, ◌<◌, List, [], length, map, take, replicate, slice_index_or, Option, Some}
use Rattle.std.specs.Prelude.{Ok, Err, Any, All, if◌then◌else◌}
use Rattle.std.specs.List.{flat_map, range_with_len}
use Rattle.lg_model.specs.declared.scenario.Letter.{Letter}
use Rattle.lg_model.specs.Scenario.{Scenario}
use Rattle.column_book.specs.declared.entry.Entry.{Entry}
use Rattle.uploader_core.specs.declared.state.SeqState.TheVariants as state
use Rattle.uploader_core.specs.Uploader.{UploaderState}
use Rattle.book_journal.specs.declared.applied.ApplyFault.{ApplyFault}
use Rattle.book_journal.specs.declared.applied.ApplyFault.TheVariants as faults
use Rattle.upload_world.specs.declared.fault.WorkFault.{WorkFault}
use Rattle.upload_world.specs.declared.fault.WorkFault.TheVariants.{Refused}
use Rattle.upload_world.specs.Pumps.{acked_at}
use Rattle.book_laws.specs.Keeping.{Acks}
use Rattle.book_laws.specs.Legal.{host_at, uploads_at}
use Rattle.book_laws.specs.Workers.{Worker}
use Rattle.book_laws.specs.Laws.{HasWorked}
use Rattle.host_workers.specs.declared.sender.Sender.{Sender}
use Rattle.host_workers.specs.Working.{outcome_of}
use Rattle.report_text.specs.Columns.{acked_line}

-- ---- before

-- What the host at position h sends: what came to it, cut into uploads, of which none was sent yet.
abbrev pub uploader_at : Scenario → (h : ℕ) → UploaderState
uploader_at w h = record {
  host = (host_at w h).name;
  uploads = uploads_at w h;
  states = replicate (length (uploads_at w h)) state.Idle;
}

-- The same, with the letters of the host's link.
abbrev pub sending_at : Scenario → (h : ℕ) → UploaderState × List Letter
sending_at w h = (uploader_at w h, (host_at w h).letters)

abbrev pub sending_of : Sender → UploaderState × List Letter
sending_of s = (s.uploader, s.letters.now)

-- The senders of the first n hosts of a scenario.
abbrev pub AreSenders : Scenario → (n : ℕ) → List Sender → Type 0
AreSenders w n ss = map sending_of ss ≡ map (sending_at w) (range_with_len 0 n)

-- ---- after

-- Which uploads are acknowledged.
abbrev pub acks_by : List Sender → Acks
acks_by ss h q = acked_at (slice_index_or (map (λ (s : Sender). s.uploader.states) ss) h []) q

-- A worker for each host sent the host's uploads, and the book was closed with these entries; what follows of that is the
-- law of workers.
pub record HaveSent (w : Scenario) (first entries : List Entry) (fault : Option Entry) (ss : List Sender) : Type 0 where
  pub many : length ss ≡ length w.hosts
  pub named : (h : ℕ) (s : Sender) → h < length w.hosts → (slice_index_or ss h s).uploader.host ≡ (host_at w h).name
  pub uploads : (h : ℕ) (s : Sender) → h < length w.hosts → (slice_index_or ss h s).uploader.uploads ≡ uploads_at w h
  pub workers : List Worker
  pub ended : map (λ (p : Worker). (p.states, p.result)) workers ≡ map outcome_of ss
  pub worked : HasWorked w first entries fault workers

-- ---- what is told

-- A line for each acknowledged upload, in the order of their numbers.
abbrev pub line_of : UploaderState → (q : ℕ) → List ℕ
line_of u q = if acked_at u.states q then acked_line u.host q else []

abbrev pub lines_with : UploaderState → List ℕ
lines_with u = flat_map (line_of u) (range_with_len 0 (length u.uploads))

abbrev pub lines_of : Sender → List ℕ
lines_of s = lines_with s.uploader

-- A sender's work ended well, or with that fault.
abbrev pub IsFine : Sender → Type 0
IsFine s = s.result ≡ Ok tt

abbrev pub HasMet : WorkFault → Sender → Type 0
HasMet fault s = s.result ≡ Err fault

-- The first fault that a sender met, in their order: the work of all before it ended well.
pub record IsFirstMet (fault : WorkFault) (ss : List Sender) : Type 0 where
  pub at : ℕ
  pub sender : Sender
  pub inside : at < length ss
  pub here : slice_index_or ss at sender ≡ sender
  pub met : HasMet fault sender
  pub before : All IsFine (take at ss)

-- A fault of an upload that a worker may have met, where the journal has that fault.
abbrev pub CanBeMet : Option Entry → ApplyFault → Type 0
CanBeMet broken (faults.Conflict key kept came) = Unit {0}
CanBeMet broken (faults.Full held more) = Unit {0}
CanBeMet broken faults.DiskFault = (e : Entry) × (broken ≡ Some e)
CanBeMet broken (faults.Broken n) = (e : Entry) × (broken ≡ Some e)
CanBeMet broken (faults.WrongShape kept came) = ⊥
CanBeMet broken faults.Memory = ⊥

abbrev pub AllCanBeMet : Option Entry → List Sender → Type 0
AllCanBeMet broken ss = (q : ℕ) (fault : ApplyFault) → Any (HasMet (Refused q fault)) ss → CanBeMet broken fault
