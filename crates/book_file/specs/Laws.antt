-- Laws over the definitions alone.
use Rattle.std.specs.Prelude.{◌≡◌, ◌≢◌, ℕ, ◌+◌, ◌*◌, ◌≤◌, List, [], length, Option, Result, Err}
use Rattle.lg_model.specs.Placing.{Shape}
use Rattle.lg_model.specs.Columns.{dims_of}
use Rattle.sketchlet_wire.specs.ShapeFields.{FitsShape}
use Rattle.sketchlet_wire.specs.Uploads.{UploadData}
use Rattle.book_file.specs.declared.found.OpenFault.{OpenFault}
use Rattle.book_file.specs.declared.found.OpenFault.TheVariants.{Memory}
use Rattle.book_file.specs.declared.found.Found.{Found}
use Rattle.book_file.specs.File.{front, IsBlank, AreRecords, StandsFor}
use Rattle.book_file.specs.Found.{Suits, count_of, Finds}

-- Bytes that aren't blank stand for at most one shape and one list of records.
abbrev pub LawOfFiles : Type 0
LawOfFiles = (file : List ℕ) (s t : Shape) (L M : List UploadData) → (IsBlank file → ⊥) → StandsFor s L file → StandsFor t M file
    → (s ≡ t) × (L ≡ M)

-- What stands in a blank file is the empty list alone.
abbrev pub LawOfBlankFiles : Type 0
LawOfBlankFiles = (file : List ℕ) (s : Shape) (L : List UploadData) → IsBlank file → StandsFor s L file → L ≡ []

-- One answer at most is true of a file, no memory apart. So each comes exactly where its cause is there.
abbrev pub LawOfAnswers : Type 0
LawOfAnswers = (asked : Option Shape) (room : ℕ) (file : List ℕ) (r s : Result Found OpenFault) →
    Finds asked room file r → Finds asked room file s → r ≢ Err Memory → s ≢ Err Memory → r ≡ s

-- A file that stands for a list which there is room for has no fault.
abbrev pub LawOfWholeFiles : Type 0
LawOfWholeFiles = (asked : Option Shape) (room : ℕ) (file : List ℕ) (shape : Shape) (L : List UploadData) (fault : OpenFault) →
    Suits asked shape → StandsFor shape L file → count_of L ≤ room → Finds asked room file (Err fault) → fault ≡ Memory

-- The closing gate stands at most 17 bytes and 64 for each column from the start.
abbrev pub LawOfLengths : Type 0
LawOfLengths = (shape : Shape) (L : List UploadData) → FitsShape shape → AreRecords (dims_of shape) L
    → length (front shape L) ≤ 17 + 64 * count_of L
