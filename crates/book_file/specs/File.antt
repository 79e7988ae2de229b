-- The file of a book, as a relation on whole files. Numbers are big-endian.
use Rattle.std.specs.Prelude.{◌≡◌, ◌≢◌, ◌⊎◌, ℕ, ◌+◌, ◌*◌, ◌<◌, ◌≤◌, ◌^◌, List, [], ◌∷◌, ◌++◌, length, slice_index}
use Rattle.std.specs.List.{flat_map, AllByRecursion, IsDistinct}
use Rattle.std.specs.Int.{w16, w32, to_be_bytes}
use Rattle.lg_model.specs.declared.column.Dims.{Dims}
use Rattle.lg_model.specs.declared.limits.TheConstants.{MOST_UPLOAD_COLUMNS}
use Rattle.lg_model.specs.Placing.{Shape}
use Rattle.lg_model.specs.Columns.{Column, dims_of}
use Rattle.sketchlet_wire.specs.Spelling.{IsColumn, column_key_bytes, cells_bytes, cells_len}
use Rattle.sketchlet_wire.specs.ShapeFields.{FitsShape, shape_bytes}
use Rattle.sketchlet_wire.specs.Uploads.{UploadData, same_column_key}
use Rattle.column_book.specs.Entries.{columns_in}
use Rattle.column_book.specs.Kept.{keys_of}

-- A gate is one byte: 1 is open, every other byte is closed.
abbrev pub IsClosed : ℕ → Type 0
IsClosed gate = gate ≢ 1

-- The 17 bytes of a header with an open gate: the gate, the letters L, G, B and 1, and the 12 bytes of the shape.
unfoldable pub header : Shape → List ℕ
header shape = 1 ∷ 76 ∷ 71 ∷ 66 ∷ 49 ∷ shape_bytes shape

-- A column in a body: its key and its cells, as in a sketchlet.
abbrev pub column_bytes : Column → List ℕ
column_bytes c = column_key_bytes c.key ++ cells_bytes c.cells

-- The body of a record: the host in 2 bytes, the number at this host in 4, how many columns in 1, and the columns.
unfoldable pub body : UploadData → List ℕ
body r = to_be_bytes w16 r.host ++ (to_be_bytes w32 r.seq ++ (length r.columns ∷ flat_map column_bytes r.columns))

-- The length of a column in a body by its rows, 14 to 56 bytes, and of a body of that many columns, 21 to 903 bytes.
abbrev pub column_len : (rows : ℕ) → ℕ
column_len rows = 8 + cells_len rows

abbrev pub body_len : (rows count : ℕ) → ℕ
body_len rows count = 7 + count * column_len rows

-- A body after its open gate.
abbrev pub record_bytes : UploadData → List ℕ
record_bytes r = 1 ∷ body r

-- The header and the records, up to the gate that follows.
abbrev pub front : Shape → List UploadData → List ℕ
front shape rs = header shape ++ flat_map record_bytes rs

-- A column that a book of sketches of that size may keep: its index is below the width.
pub record IsColumnOf (dims : Dims) (c : Column) : Type 0 where
  pub column : IsColumn c
  pub sized : c.dims ≡ dims

-- A well-formed record, looked at alone: 1 to 16 columns of that size, and numbers that their fields hold.
pub record IsRecord (dims : Dims) (r : UploadData) : Type 0 where
  pub host : r.host < 2 ^ 16
  pub seq : r.seq < 2 ^ 32
  pub some : 1 ≤ length r.columns
  pub few : length r.columns ≤ MOST_UPLOAD_COLUMNS
  pub each : AllByRecursion (IsColumnOf dims) r.columns

-- Well-formed records: no key stands twice in them.
pub record AreRecords (dims : Dims) (rs : List UploadData) : Type 0 where
  pub each : AllByRecursion (IsRecord dims) rs
  pub apart : IsDistinct same_column_key (keys_of (columns_in rs))

-- Blank: a length of 0 or 1, or of at most 18 with a first byte that is no open gate.
abbrev pub IsBlank : List ℕ → Type 0
IsBlank file = (length file ≤ 1) ⊎ ((length file ≤ 18) × IsClosed (slice_index file 0))

-- The file has, in order, the header and the records, a closed gate, and then anything.
pub record Spells (shape : Shape) (rs : List UploadData) (file : List ℕ) : Type 0 where
  pub gate : ℕ
  pub rest : List ℕ
  pub bytes : file ≡ front shape rs ++ gate ∷ rest
  pub closed : IsClosed gate
  pub shape_fits : FitsShape shape
  pub records_fit : AreRecords (dims_of shape) rs

-- A file stands for a shape and a list of records. A blank one stands for the empty list under every shape.
abbrev pub StandsFor : Shape → List UploadData → List ℕ → Type 0
StandsFor shape rs file = (IsBlank file × (rs ≡ [])) ⊎ Spells shape rs file
