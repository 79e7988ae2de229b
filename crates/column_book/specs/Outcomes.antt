-- What follows from each answer to an upload, and the content after it.
use Rattle.std.specs.Prelude.{◌≡◌, ◌≢◌, ℕ, ◌+◌, ◌<◌, ◌≤◌, List, [], ◌∷◌, length, take, All, Some, IfSome, Result, Ok, Err, slice_index_or}
use Rattle.lg_model.specs.declared.column.Key.{Key}
use Rattle.lg_model.specs.Placing.{Shape}
use Rattle.lg_model.specs.Columns.{Column, dims_of}
use Rattle.lg_model.specs.Answer.{Content, content_of, found}
use Rattle.lg_model.specs.Joining.{AreJoinable, join}
use Rattle.sketchlet_wire.specs.Uploads.{UploadData, no_column}
use Rattle.column_book.specs.declared.entry.Entry.{Entry}
use Rattle.column_book.specs.declared.fault.BookFault.{BookFault}
use Rattle.column_book.specs.declared.fault.BookFault.TheVariants.{WrongShape, Conflict, Full}
use Rattle.column_book.specs.Entries.{records, columns_in, content_in, content}
use Rattle.column_book.specs.Applying.{new_columns, decide, after}

-- A column is of that size.
abbrev pub IsSized : Shape → Column → Type 0
IsSized shape c = c.dims ≡ dims_of shape

-- A column's key has no other counters in the content.
abbrev pub IsSame : Content → Column → Type 0
IsSame m c = IfSome (found m c.key) (λ v. v ≡ c.cells)

-- 1. The first column that is of another size.
pub record IsMisshapen (shape : Shape) (u : UploadData) (c : Column) : Type 0 where
  pub at : ℕ
  pub inside : at < length u.columns
  pub is : slice_index_or u.columns at no_column ≡ c
  pub other : c.dims ≢ dims_of shape
  pub first : All (IsSized shape) (take at u.columns)

-- 2. None is; the first column whose key has other counters in the content.
pub record IsConflict (shape : Shape) (rs : List UploadData) (u : UploadData) (key : Key) (kept came : Column) : Type 0 where
  pub sized : All (IsSized shape) u.columns
  pub at : ℕ
  pub inside : at < length u.columns
  pub is : slice_index_or u.columns at no_column ≡ came
  pub under : came.key ≡ key
  pub has : found (content_in rs) key ≡ Some kept.cells
  pub named : (kept.key ≡ key) × (kept.dims ≡ dims_of shape)
  pub other : kept.cells ≢ came.cells
  pub first : All (IsSame (content_in rs)) (take at u.columns)

-- Neither comes.
pub record IsFitting (shape : Shape) (rs : List UploadData) (u : UploadData) : Type 0 where
  pub sized : All (IsSized shape) u.columns
  pub same : All (IsSame (content_in rs)) u.columns

-- 3. There is no room for the new columns.
pub record IsPastRoom (shape : Shape) (room : ℕ) (rs : List UploadData) (u : UploadData) (held more : ℕ) : Type 0 where
  pub fitting : IsFitting shape rs u
  pub has : held ≡ length (columns_in rs)
  pub brings : more ≡ length (new_columns (content_in rs) u.columns)
  pub over : room < held + more

-- There is.
pub record HasRoomFor (shape : Shape) (room : ℕ) (rs : List UploadData) (u : UploadData) : Type 0 where
  pub fitting : IsFitting shape rs u
  pub room_left : length (columns_in rs) + length (new_columns (content_in rs) u.columns) ≤ room

-- 4. There is room, and no column is new.
pub record IsKnown (shape : Shape) (room : ℕ) (rs : List UploadData) (u : UploadData) : Type 0 where
  pub taken : HasRoomFor shape room rs u
  pub none : new_columns (content_in rs) u.columns ≡ []

-- 5. Some are: these, in order.
pub record IsStored (shape : Shape) (room : ℕ) (rs : List UploadData) (u : UploadData) (new : List Column) : Type 0 where
  pub taken : HasRoomFor shape room rs u
  pub some : 0 < length new
  pub is : new ≡ new_columns (content_in rs) u.columns

-- What is so where this is the answer.
abbrev pub Follows : Shape → (room : ℕ) → List UploadData → UploadData → Result (List Column) BookFault → Type 0
Follows shape room rs u (Err (WrongShape kept came)) = (c : Column) × (IsMisshapen shape u c × ((kept ≡ dims_of shape) × (came ≡ c.dims)))
Follows shape room rs u (Err (Conflict key kept came)) = IsConflict shape rs u key kept came
Follows shape room rs u (Err (Full held more)) = IsPastRoom shape room rs u held more
Follows shape room rs u (Ok []) = IsKnown shape room rs u
Follows shape room rs u (Ok (c ∷ cs)) = IsStored shape room rs u (c ∷ cs)

abbrev pub LawOfOutcomes : Type 0
LawOfOutcomes = (shape : Shape) (room : ℕ) (rs : List UploadData) (u : UploadData) → Follows shape room rs u (decide shape room rs u)

-- The content after an upload that is taken, stored or known, is the join of the content before and the upload's.
pub record IsJoined (shape : Shape) (room : ℕ) (es : List Entry) (pass : ℕ) (u : UploadData) : Type 0 where
  pub joinable : AreJoinable (content es) (content_of u.columns)
  pub joined : content (after shape room es pass u) ≡ join (content es) (content_of u.columns)

abbrev pub LawOfContents : Type 0
LawOfContents = (shape : Shape) (room : ℕ) (es : List Entry) (pass : ℕ) (u : UploadData) (new : List Column) → decide shape room (records es) u ≡ Ok new → IsJoined shape room es pass u
