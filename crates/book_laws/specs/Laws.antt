-- The laws of a run over a book.
use Rattle.std.specs.Prelude.{◌≡◌, ℕ, ◌<◌, true, List, length, drop, All, Contains, Option, None, Err, IsOk, slice_index_or}
use mathlib.Core.List.{IsPrefix}
use Rattle.lg_model.specs.Placing.{Shape}
use Rattle.lg_model.specs.Scenario.{Scenario}
use Rattle.lg_model.specs.Carrying.{picked}
use Rattle.lg_model.specs.Arriving.{brought_to_all}
use Rattle.lg_model.specs.Columns.{Column}
use Rattle.sketchlet_wire.specs.Uploads.{UploadData}
use Rattle.column_book.specs.declared.book.TheConstants.{ROOM}
use Rattle.column_book.specs.declared.entry.Entry.{Entry}
use Rattle.column_book.specs.declared.fault.BookFault.{BookFault}
use Rattle.column_book.specs.Entries.{records, columns_in, content_in}
use Rattle.column_book.specs.Applying.{decide}
use Rattle.book_file.specs.Between.{Files}
use Rattle.book_file.specs.File.{StandsFor}
use Rattle.book_journal.specs.declared.applied.ApplyFault.{ApplyFault}
use Rattle.book_journal.specs.Applied.{fault_of}
use Rattle.book_journal.specs.Runs.{with_fault}
use Rattle.lock_rule.specs.declared.view.View.{View}
use Rattle.lock_rule.specs.Closing.{Closes}
use Rattle.link_deliveries.specs.Deliveries.{delivered}
use Rattle.upload_world.specs.declared.fault.WorkFault.TheVariants.{Refused}
use Rattle.scenario_parts.specs.Whole.{IsWhole}
use Rattle.book_laws.specs.Legal.{Order, IsLegal, uploads_at, upload_at}
use Rattle.book_laws.specs.Leaving.{IsLeft, IsLeftByFiles}
use Rattle.book_laws.specs.Keeping.{IsHeld, AllHeld, HasKeysOnce, IsJoined, IsCaused, AreAcked, IsRefusedAt}
use Rattle.book_laws.specs.Truth.{IsTrueFrom}
use Rattle.book_laws.specs.Workers.{Worker, IsWork, AreJoined, acks_of, AllDone, IsExplained}

-- ---- legal lists

-- What a legal list has. Each list from the one that was found up to it is legal too. What was found stays, what was
-- added is brought, and no key comes twice. With all that is brought it is the join; and where all of that was found,
-- nothing is added.
pub record HasGrown (order : Order) (w : Scenario) (before list : List UploadData) : Type 0 where
  pub begins : IsPrefix before list
  pub fronts : (l : List UploadData) → IsPrefix before l → IsPrefix l list → IsLegal order w before l
  pub stays : (c : Column) → IsHeld (content_in before) c → IsHeld (content_in list) c
  pub adds : All (Contains (brought_to_all w (picked w))) (columns_in (drop (length before) list))
  pub once : HasKeysOnce before → HasKeysOnce list
  pub joined : AllHeld w list → IsJoined w before list
  pub repeats : AllHeld w before → list ≡ before

abbrev pub LawOfLegalLists : Type 0
LawOfLegalLists = (order : Order) (w : Scenario) (before list : List UploadData) → IsLegal order w before list
    → HasGrown order w before list

-- Where an upload is refused after a legal list, the cause lies between the list that was found and what is brought.
abbrev pub LawOfRefusals : Type 0
LawOfRefusals = (order : Order) (w : Scenario) (before list : List UploadData) → IsWhole w → HasKeysOnce before
    → IsLegal order w before list
    → (h q : ℕ) (fault : BookFault) → h < length w.hosts → q < length (uploads_at w h)
    → decide w.shape ROOM list (upload_at w h q) ≡ Err fault → IsCaused w before fault

-- What is true of each run from each list.
abbrev pub LawOfTrueLists : Type 0
LawOfTrueLists = (order : Order) (w : Scenario) (before : List UploadData) → IsWhole w → IsTrueFrom order w before

-- ---- files

-- A file stands for at most one list under a shape, and for one in which no key stands twice.
pub record LawOfStanding : Type 0 where
  pub one : (shape : Shape) (file : List ℕ) (l m : List UploadData)
      → StandsFor shape l file → StandsFor shape m file → l ≡ m
  pub once : (shape : Shape) (file : List ℕ) (l : List UploadData) → StandsFor shape l file → HasKeysOnce l

-- What a run leaves on these sets of files, it leaves file by file.
abbrev pub LawOfFilesLeft : (was now since : Files) → Type 0
LawOfFilesLeft was now since = (order : Order) (w : Scenario) (before kept full : List UploadData)
    → IsLeft (StandsFor w.shape) order w before was now since kept full
    → IsLeftByFiles (StandsFor w.shape) order w before was now since

-- ---- one worker per host

-- What holds once all workers are done and the book is closed; where its journal is broken, one record more may be on
-- the disk. The list is legal, and stays so with that record. All columns of an acknowledged upload are kept; and of a
-- host whose link drops no reply, each upload of which a record was added is acknowledged. Where every worker came to
-- its end, all that is brought is there, and the journal isn't broken; and where one did, all its own uploads are
-- acknowledged. Where the book refused an upload, there is a cause for it, and some legal list refuses it. And where all
-- that is brought was found, nothing is added.
pub record HasWorked (w : Scenario) (first entries : List Entry) (fault : Option Entry) (ps : List Worker) : Type 0 where
  pub begins : IsPrefix first entries
  pub legal : IsLegal delivered w (records first) (records (with_fault entries fault))
  pub acks : AreAcked w (records first) (records entries) (acks_of ps)
  pub done : AllDone ps → AllHeld w (records entries) × IsJoined w (records first) (records entries)
  pub sound : AllDone ps → fault ≡ None
  pub refused : IsWhole w → (h : ℕ) (d : Worker) (q : ℕ) (why : ApplyFault) → h < length ps
      → (slice_index_or ps h d).result ≡ Err (Refused q why) → IsExplained w (records first) fault why
  pub fine : (h q : ℕ) (d : Worker) → h < length ps → IsOk (slice_index_or ps h d).result → q < length (uploads_at w h)
      → acks_of ps h q ≡ true
  pub refusal : (h q : ℕ) (d : Worker) (why : BookFault) → h < length ps
      → (slice_index_or ps h d).result ≡ Err (Refused q (fault_of why)) → IsRefusedAt delivered w (records first) h q why
  pub repeats : AllHeld w (records first) → (entries ≡ first) × (fault ≡ None)

-- It holds however the workers ran, where each did what a pump promises with the pass of its host.
abbrev pub LawOfWorkers : Type 0
LawOfWorkers = (w : Scenario) (first entries : List Entry) (fault : Option Entry) (v : View) (ps : List Worker)
    → HasKeysOnce (records first) → length ps ≡ length w.hosts → Closes first v entries fault → AreJoined first v ps
    → ((h : ℕ) (d : Worker) → h < length ps → IsWork w h first (slice_index_or ps h d))
    → HasWorked w first entries fault ps
