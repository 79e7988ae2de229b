-- What a run keeps of the uploads, and why it refuses one.
use Rattle.std.specs.Prelude.{◌≡◌, ◌≢◌, ℕ, ◌<◌, ◌≤◌, ◌+◌, List, length, All, Contains, Bool, true, Some, Err}
use Rattle.std.specs.List.{slice_get, IsDistinct}
use Rattle.lg_model.specs.declared.scenario.Letter.{Letter}
use Rattle.lg_model.specs.declared.scenario.Letter.TheVariants.{LoseReply}
use Rattle.lg_model.specs.declared.column.Key.{Key}
use Rattle.lg_model.specs.Scenario.{Scenario}
use Rattle.lg_model.specs.Carrying.{picked}
use Rattle.lg_model.specs.Arriving.{brought_to_all}
use Rattle.lg_model.specs.Columns.{Column, dims_of}
use Rattle.lg_model.specs.Answer.{Content, found}
use Rattle.lg_model.specs.Joining.{AreJoinable, join}
use Rattle.sketchlet_wire.specs.Uploads.{UploadData, same_column_key}
use Rattle.column_book.specs.declared.book.TheConstants.{ROOM}
use Rattle.column_book.specs.declared.fault.BookFault.{BookFault}
use Rattle.column_book.specs.declared.fault.BookFault.TheVariants.{WrongShape, Conflict, Full}
use Rattle.column_book.specs.Entries.{columns_in, content_in}
use Rattle.column_book.specs.Applying.{decide}
use Rattle.column_book.specs.Kept.{keys_of}
use Rattle.run_laws.specs.Truth.{book_of}
use Rattle.book_laws.specs.Legal.{Order, IsLegal, host_at, uploads_at, upload_at}

-- ---- what is in a list

-- A column is in a content, with these counters.
abbrev pub IsHeld : Content → Column → Type 0
IsHeld m c = found m c.key ≡ Some c.cells

-- Every column that a packet brings to a host is in a list.
abbrev pub AllHeld : Scenario → List UploadData → Type 0
AllHeld w l = All (IsHeld (content_in l)) (brought_to_all w (picked w))

-- No key stands twice in a list.
abbrev pub HasKeysOnce : List UploadData → Type 0
HasKeysOnce l = IsDistinct same_column_key (keys_of (columns_in l))

-- A list has the columns of the one that was found and all that are brought, and no others; and no key of both has
-- different counters in the two.
pub record IsJoined (w : Scenario) (before list : List UploadData) : Type 0 where
  pub fits : AreJoinable (content_in before) (book_of w)
  pub is : content_in list ≡ join (content_in before) (book_of w)

-- ---- why an upload is refused

-- A column that is brought has other counters than the column of its key in the list that was found.
pub record IsClash (w : Scenario) (before : List UploadData) (key : Key) (kept came : Column) : Type 0 where
  pub brought : Contains (brought_to_all w (picked w)) came
  pub under : came.key ≡ key
  pub has : found (content_in before) key ≡ Some kept.cells
  pub named : (kept.key ≡ key) × (kept.dims ≡ dims_of w.shape)
  pub other : kept.cells ≢ came.cells

-- The keys of the list that was found and of all that is brought are together more than a book has room for.
abbrev pub IsOverfull : Scenario → (before : List UploadData) → Type 0
IsOverfull w before = ROOM < length (join (content_in before) (book_of w))

-- The cause of each fault of an upload. None is of another size than the book's columns.
abbrev pub IsCaused : Scenario → (before : List UploadData) → BookFault → Type 0
IsCaused w before (WrongShape kept came) = ⊥
IsCaused w before (Conflict key kept came) = IsClash w before key kept came
IsCaused w before (Full held more) = IsOverfull w before × (ROOM < held + more)

-- ---- which uploads are acknowledged

-- Whether one is: by the position of its host, and its number.
abbrev pub Acks : Type 0
Acks = (h q : ℕ) → Bool

-- No letter drops a reply.
abbrev pub KeepsReplies : List Letter → Type 0
KeepsReplies letters = All (λ (l : Letter). l ≢ LoseReply) letters

-- A record is of an upload of a host; and where the host's link drops no reply, that upload is acknowledged.
pub record IsAnswered (w : Scenario) (acked : Acks) (r : UploadData) : Type 0 where
  pub at : ℕ
  pub declared : at < length w.hosts
  pub sent : r.seq < length (uploads_at w at)
  pub host : r.host ≡ (host_at w at).name
  pub told : KeepsReplies (host_at w at).letters → acked at r.seq ≡ true

-- Every column of an acknowledged upload is kept; and each record that was added is answered.
pub record AreAcked (w : Scenario) (before kept : List UploadData) (acked : Acks) : Type 0 where
  pub held : (h q : ℕ) → h < length w.hosts → q < length (uploads_at w h) → acked h q ≡ true
      → All (IsHeld (content_in kept)) (upload_at w h q).columns
  pub answered : (i : ℕ) (r : UploadData) → length before ≤ i → slice_get kept i ≡ Some r → IsAnswered w acked r

-- ---- whose refusal is told

-- A list that the run may come to refuses the upload of number q of the host at position h, with that fault.
pub record IsRefusedAt (order : Order) (w : Scenario) (before : List UploadData) (h q : ℕ) (fault : BookFault) : Type 0 where
  pub sent : q < length (uploads_at w h)
  pub list : List UploadData
  pub legal : IsLegal order w before list
  pub says : decide w.shape ROOM list (upload_at w h q) ≡ Err fault

-- It is that of the first host whose work stopped: all uploads of each host before it are acknowledged.
pub record IsFirstRefusal (order : Order) (w : Scenario) (before : List UploadData) (acked : Acks) (fault : BookFault) : Type 0 where
  pub host : ℕ
  pub number : ℕ
  pub declared : host < length w.hosts
  pub earlier : (h q : ℕ) → h < host → q < length (uploads_at w h) → acked h q ≡ true
  pub refused : IsRefusedAt order w before host number fault
