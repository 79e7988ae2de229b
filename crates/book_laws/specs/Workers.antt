-- A run with one worker per host: what each worker did, and what is known of it once the book is closed.
use Rattle.std.specs.Prelude.{◌≡◌, ℕ, ◌+◌, List, [], length, map, replicate, reverse, All, slice_index_or, Option, Some}
use Rattle.std.specs.Prelude.{Result, IsOk}
use Rattle.lg_model.specs.Scenario.{Scenario}
use Rattle.sketchlet_wire.specs.Uploads.{UploadData}
use Rattle.column_book.specs.declared.book.TheConstants.{ROOM}
use Rattle.column_book.specs.declared.entry.Entry.{Entry}
use Rattle.column_book.specs.declared.fault.BookFault.TheVariants as book
use Rattle.book_journal.specs.declared.applied.ApplyFault.{ApplyFault}
use Rattle.book_journal.specs.declared.applied.ApplyFault.TheVariants as apply
use Rattle.lock_rule.specs.declared.view.Doing.TheVariants as doing
use Rattle.lock_rule.specs.declared.view.Mark.TheVariants.{Clear}
use Rattle.lock_rule.specs.declared.view.View.{View}
use Rattle.lock_rule.specs.Views.{of, new_pass, joined_of}
use Rattle.uploader_core.specs.declared.state.SeqState.{SeqState}
use Rattle.uploader_core.specs.declared.state.SeqState.TheVariants as state
use Rattle.link_deliveries.specs.Deliveries.{delivered}
use Rattle.upload_world.specs.declared.fault.WorkFault.{WorkFault}
use Rattle.upload_world.specs.Pumps.{Pumps, acked_at}
use Rattle.book_laws.specs.Legal.{host_at, uploads_at, order_at}
use Rattle.book_laws.specs.Keeping.{Acks, IsCaused}

-- The worker of a host when all is over: what its pass knows, the state of each upload, and how it ended.
pub record Worker : Type 0 where
  pub view : View
  pub states : List SeqState
  pub result : Result (Unit {0}) WorkFault

-- What the worker of the host at position h did: it pumped the host's uploads over the host's link. Its pass was a new
-- one, of number h + 2, that had seen the entries of the opened book, and no upload had been sent. Each upload has a
-- state.
pub record IsWork (w : Scenario) (h : ℕ) (first : List Entry) (p : Worker) : Type 0 where
  pub paired : length p.states ≡ length (uploads_at w h)
  pub pumps : Pumps w.shape ROOM (uploads_at w h) (order_at delivered w h) (host_at w h).letters
      (new_pass (h + 2) doing.Idle first 0) p.view (replicate (length (uploads_at w h)) state.Idle) p.states p.result

-- The passes of all workers were joined into the first pass, host after host, the last one on top. The first pass
-- itself stored nothing and met no fault.
pub record AreJoined (first : List Entry) (v : View) (ps : List Worker) : Type 0 where
  pub number : v.number ≡ 1
  pub made : v.made ≡ length ps + 1
  pub joined : v.joined ≡ reverse (map (λ (p : Worker). joined_of p.view) ps)
  pub own : of 1 v.seen ≡ of 1 first
  pub clear : v.mark ≡ Clear

-- Which uploads are acknowledged in the end; past the last host none is.
abbrev pub acks_of : List Worker → Acks
acks_of ps h q = acked_at (slice_index_or (map (λ (p : Worker). p.states) ps) h []) q

-- Every worker came to its end: all its uploads are acknowledged.
abbrev pub AllDone : List Worker → Type 0
AllDone ps = All (λ (p : Worker). IsOk p.result) ps

-- What it means that the book refused an upload of a worker: a conflict and a lack of room have their causes in the
-- scenario and the list that was found, and else the journal is broken. The size of a column is never the cause.
abbrev pub IsExplained : Scenario → (before : List UploadData) → (fault : Option Entry) → ApplyFault → Type 0
IsExplained w before fault (apply.Broken records) = (e : Entry) × (fault ≡ Some e)
IsExplained w before fault (apply.WrongShape kept came) = ⊥
IsExplained w before fault (apply.Conflict key kept came) = IsCaused w before (book.Conflict key kept came)
IsExplained w before fault (apply.Full held more) = IsCaused w before (book.Full held more)
IsExplained w before fault apply.Memory = ⊥
IsExplained w before fault apply.DiskFault = (e : Entry) × (fault ≡ Some e)
