-- What stands in a whole file, by cases: nothing, a book, or the first place where something is wrong.
use Rattle.std.specs.Prelude.{◌≡◌, ◌≢◌, ◌⊎◌, ℕ, ◌+◌, ◌<◌, ◌≤◌, List, [], ◌∷◌, ◌++◌, length, map, Option, None, Some, Result, Ok, Err}
use Rattle.lg_model.specs.Placing.{Shape}
use Rattle.lg_model.specs.Columns.{dims_of}
use Rattle.sketchlet_wire.specs.ShapeFields.{FitsShape}
use Rattle.sketchlet_wire.specs.Uploads.{UploadData}
use Rattle.column_book.specs.declared.entry.Entry.{Entry}
use Rattle.column_book.specs.Entries.{BookState, records, columns_in}
use Rattle.book_file.specs.declared.found.OpenFault.{OpenFault}
use Rattle.book_file.specs.declared.found.OpenFault.TheVariants.{DiskFault, NotAJournal, WrongShape, Damaged, Full, Memory}
use Rattle.book_file.specs.declared.found.Found.{Found}
use Rattle.book_file.specs.declared.found.Found.TheVariants.{Blank, Book}
use Rattle.book_file.specs.File.{header, body, front, IsBlank, AreRecords, Spells}

-- The file begins with an open gate and the well-formed header of that shape.
pub record HasHeader (shape : Shape) (file : List ℕ) : Type 0 where
  pub rest : List ℕ
  pub bytes : file ≡ header shape ++ rest
  pub shape_fits : FitsShape shape

-- No shape is asked for, or this one.
abbrev pub Suits : Option Shape → Shape → Type 0
Suits None shape = Unit {0}
Suits (Some asked) shape = shape ≡ asked

-- The book of records that were read: each is an entry of pass 0, and no key is on the ready list.
abbrev pub read_entry : UploadData → Entry
read_entry r = record { pass = 0; stored = r }

abbrev pub book_of : Shape → (room : ℕ) → List UploadData → BookState
book_of shape room rs = record { shape = shape; room = room; entries = map read_entry rs; ready = [] }

-- How many columns records have.
abbrev pub count_of : List UploadData → ℕ
count_of rs = length (columns_in rs)

-- The walk comes over these records to the gate after them: the header's shape suits, the records are well formed, and
-- their columns are no more than the room.
pub record Reaches (asked : Option Shape) (room : ℕ) (shape : Shape) (rs : List UploadData) (file : List ℕ) : Type 0 where
  pub rest : List ℕ
  pub bytes : file ≡ front shape rs ++ rest
  pub suits : Suits asked shape
  pub shape_fits : FitsShape shape
  pub records_fit : AreRecords (dims_of shape) rs
  pub few : count_of rs ≤ room

-- No body of a record that is well formed after these stands at the front of the bytes.
abbrev pub HasNoBody : Shape → List UploadData → List ℕ → Type 0
HasNoBody shape rs bytes = (r : UploadData) (tail : List ℕ) → AreRecords (dims_of shape) (rs ++ r ∷ []) → bytes ≢ body r ++ tail

-- The file ends at `at`, where a gate should be.
pub record Ends (asked : Option Shape) (room at : ℕ) (file : List ℕ) : Type 0 where
  pub shape : Shape
  pub before : List UploadData
  pub reached : Reaches asked room shape before file
  pub place : at ≡ length (front shape before)
  pub nothing : file ≡ front shape before

-- At `at` stands an open gate with no well-formed body after it.
pub record Breaks (asked : Option Shape) (room at : ℕ) (file : List ℕ) : Type 0 where
  pub shape : Shape
  pub before : List UploadData
  pub reached : Reaches asked room shape before file
  pub place : at ≡ length (front shape before)
  pub tail : List ℕ
  pub opens : file ≡ front shape before ++ 1 ∷ tail
  pub no_body : HasNoBody shape before tail

-- After an open gate stands a well-formed body of `more` columns, too many beside the `held` ones before it.
pub record Overfills (asked : Option Shape) (room held more : ℕ) (file : List ℕ) : Type 0 where
  pub shape : Shape
  pub before : List UploadData
  pub reached : Reaches asked room shape before file
  pub next : UploadData
  pub tail : List ℕ
  pub opens : file ≡ front shape before ++ 1 ∷ (body next ++ tail)
  pub well_formed : AreRecords (dims_of shape) (before ++ next ∷ [])
  pub held_is : held ≡ count_of before
  pub more_is : more ≡ length next.columns
  pub over : room < held + more

-- The file stands for the records of this book, whose closing gate stands at `end`.
pub record Holds (asked : Option Shape) (room : ℕ) (b : BookState) (end : ℕ) (file : List ℕ) : Type 0 where
  pub suits : Suits asked b.shape
  pub spells : Spells b.shape (records b.entries) file
  pub few : count_of (records b.entries) ≤ room
  pub book : b ≡ book_of b.shape room (records b.entries)
  pub place : end ≡ length (front b.shape (records b.entries))

-- What stands in a whole file, where a shape may be asked for and there is that much room. No memory says nothing of the
-- file, and no fault of a disk stands in one.
abbrev pub Finds : Option Shape → (room : ℕ) → List ℕ → Result Found OpenFault → Type 0
Finds asked room file (Ok Blank) = IsBlank file
Finds asked room file (Ok (Book b end)) = Holds asked room b end file
Finds asked room file (Err DiskFault) = ⊥
Finds asked room file (Err NotAJournal) = (IsBlank file → ⊥) × ((shape : Shape) → HasHeader shape file → ⊥)
Finds asked room file (Err (WrongShape kept a)) = (asked ≡ Some a) × (kept ≢ a) × HasHeader kept file
Finds asked room file (Err (Damaged at)) = Ends asked room at file ⊎ Breaks asked room at file
Finds asked room file (Err (Full held more)) = Overfills asked room held more file
Finds asked room file (Err Memory) = Unit {0}
