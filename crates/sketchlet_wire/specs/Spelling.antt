-- What a column is, and its one spelling. Numbers are big-endian.
use Rattle.std.specs.Prelude.{◌≡◌, ℕ, ◌<◌, ◌≤◌, ◌+◌, ◌*◌, ◌^◌, List, [], ◌∷◌, ◌++◌, length, take, drop, replicate, slice_index_or}
use Rattle.std.proofs.Common.{ap, sym, ◌∙◌}
use Rattle.std.proofs.lemmas.List.{take-append-drop}
use Rattle.std.specs.List.{flat_map}
use Rattle.std.specs.Int.{w16, w32, to_be_bytes}
use Rattle.lg_model.specs.declared.column.Bucket.{Bucket}
use Rattle.lg_model.specs.declared.column.Key.{Key}
use Rattle.lg_model.specs.declared.column.Dims.{Dims}
use Rattle.lg_model.specs.declared.limits.TheConstants.{MOST_ROWS, MOST_WIDTH}
use Rattle.lg_model.specs.Columns.{Cells, Column}
use Rattle.lg_model.specs.Sketch.{zero_bucket}

-- The ranges of a bucket: the sum has 4 bytes, the maximum 2.
pub record FitsBucket (b : Bucket) : Type 0 where
  pub bytes : b.bytes < 2 ^ 32
  pub delay : b.delay < 2 ^ 16

abbrev pub FitBuckets : List Bucket → Type 0
FitBuckets bs = (i : ℕ) → FitsBucket (slice_index_or bs i zero_bucket)

-- The ranges of a key's numbers: the switch has 2 bytes, the epoch 4, the index 2.
pub record FitsKey (key : Key) : Type 0 where
  pub switch : key.switch < 2 ^ 16
  pub epoch : key.epoch < 2 ^ 32
  pub index : key.index < 2 ^ 16

-- The cells of a column of that many rows: a bucket each, of numbers that their fields hold.
pub record AreCells (rows : ℕ) (cells : Cells) : Type 0 where
  pub buckets : length cells.buckets ≡ rows
  pub fit : FitBuckets cells.buckets

-- What has a spelling: 1 to 8 rows, a width of at most 4096, an index below it, cells of as many rows, and numbers that
-- their fields hold.
pub record IsColumn (c : Column) : Type 0 where
  pub some_rows : 1 ≤ c.dims.rows
  pub few_rows : c.dims.rows ≤ MOST_ROWS
  pub small_width : c.dims.width ≤ MOST_WIDTH
  pub index : c.key.index < c.dims.width
  pub switch : c.key.switch < 2 ^ 16
  pub epoch : c.key.epoch < 2 ^ 32
  pub cells : AreCells c.dims.rows c.cells

-- The ranges of dimensions: 1 to 8 rows of 1 to 4096 buckets.
pub record IsDims (dims : Dims) : Type 0 where
  pub some_rows : 1 ≤ dims.rows
  pub few_rows : dims.rows ≤ MOST_ROWS
  pub some_width : 1 ≤ dims.width
  pub small_width : dims.width ≤ MOST_WIDTH

-- The key and the dimensions of a column: dimensions in their ranges, and an index below the width.
pub record IsAdmitted (key : Key) (dims : Dims) : Type 0 where
  pub some_rows : 1 ≤ dims.rows
  pub few_rows : dims.rows ≤ MOST_ROWS
  pub some_width : 1 ≤ dims.width
  pub small_width : dims.width ≤ MOST_WIDTH
  pub index : key.index < dims.width

-- The letters L and G, and the version.
unfoldable pub marks : List ℕ
marks = 76 ∷ 71 ∷ 1 ∷ []

-- The rows in 1 byte, then the width in 2.
unfoldable pub dims_bytes : Dims → List ℕ
dims_bytes dims = dims.rows ∷ to_be_bytes w16 dims.width

-- The 8 bytes of a key: the switch in 2 bytes, the epoch in 4, the index in 2.
unfoldable pub column_key_bytes : Key → List ℕ
column_key_bytes key = to_be_bytes w16 key.switch ++ (to_be_bytes w32 key.epoch ++ to_be_bytes w16 key.index)

-- The 6 bytes of a bucket: its sum, then its maximum.
unfoldable pub bucket_bytes : Bucket → List ℕ
bucket_bytes b = to_be_bytes w32 b.bytes ++ to_be_bytes w16 b.delay

-- The bytes of the cells of a column, row 0 first.
unfoldable pub cells_bytes : Cells → List ℕ
cells_bytes cells = flat_map bucket_bytes cells.buckets

-- How many bytes the cells of that many rows have.
abbrev pub cells_len : ℕ → ℕ
cells_len rows = 6 * rows

-- The bytes of a column.
abbrev pub spelling : Column → List ℕ
spelling c = marks ++ (dims_bytes c.dims ++ (column_key_bytes c.key ++ cells_bytes c.cells))

-- The length of a spelling by its rows: 20 to 62 bytes.
abbrev pub spelling_len : ℕ → ℕ
spelling_len rows = 14 + cells_len rows

-- A column is kept with eight buckets, with zeros past its rows.
abbrev pub zeros : List Bucket
zeros = replicate 8 zero_bucket

-- The cells of that many rows among eight buckets, of which those past the rows don't count.
abbrev pub cells_in : (rows : ℕ) → List Bucket → Cells
cells_in rows kept = record { buckets = take rows kept }

-- The column of a key, dimensions and eight buckets.
abbrev pub shown : Key → Dims → List Bucket → Column
shown key dims kept = record { key = key; dims = dims; cells = cells_in dims.rows kept }

-- What the code keeps: a column, and zeros past its rows.
pub record IsKept (key : Key) (dims : Dims) (kept : List Bucket) : Type 0 where
  pub column : IsColumn (shown key dims kept)
  pub zeros : drop dims.rows kept ≡ drop dims.rows zeros

-- The eight buckets that a column is kept with.
abbrev pub filled : Dims → Cells → List Bucket
filled dims cells = cells.buckets ++ drop dims.rows zeros

pub filled_back : (key : Key) (dims : Dims) (kept : List Bucket) → IsKept key dims kept → filled dims (cells_in dims.rows kept) ≡ kept
filled_back key dims kept h = ap (λ (z : List Bucket). take dims.rows kept ++ z) (sym h.zeros) ∙ take-append-drop dims.rows kept
