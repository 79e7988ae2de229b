-- Reading a column from left to right. The first field that isn't wholly there is `Short`, and the first that is there
-- with a value that isn't admitted is its own fault.
use Rattle.std.specs.Prelude.{ℕ, zero, suc, ◌||◌, List, [], ◌∷◌, length, take, drop, Result, Ok, Err, nat_lt, ◌==◌, if◌then◌else◌}
use Rattle.std.specs.Int.{w16, w32, from_be_bytes}
use Rattle.byte_fields.specs.Reading.{◌>>=◌, byte_at, number_at}
use Rattle.lg_model.specs.declared.column.Bucket.{Bucket}
use Rattle.lg_model.specs.declared.column.Key.{Key}
use Rattle.lg_model.specs.declared.column.Dims.{Dims}
use Rattle.lg_model.specs.declared.limits.TheConstants.{MOST_ROWS, MOST_WIDTH}
use Rattle.lg_model.specs.Columns.{Cells, Column, cells_of}
use Rattle.sketchlet_wire.specs.declared.fault.WireFault.{WireFault}
use Rattle.sketchlet_wire.specs.declared.fault.WireFault.TheVariants.{Short, NotSketchlet, BadRows, BadWidth, BadIndex}
use Rattle.sketchlet_wire.specs.Spelling.{cells_len, spelling_len}

-- A byte that has to be this one, at that place of the sketchlet. What is left are the bytes after it.
unfoldable pub mark_at : (place mark : ℕ) → List ℕ → Result (List ℕ) WireFault
mark_at place mark bytes = do
  b ← byte_at Short bytes
  if b.0 == mark then Ok b.1 else Err (NotSketchlet place)

-- A number of rows, 1 to 8.
unfoldable pub rows_at : List ℕ → Result (ℕ × List ℕ) WireFault
rows_at bytes = do
  b ← byte_at Short bytes
  if nat_lt b.0 1 || nat_lt MOST_ROWS b.0 then Err (BadRows b.0) else Ok b

-- A width, 1 to 4096.
unfoldable pub width_at : List ℕ → Result (ℕ × List ℕ) WireFault
width_at bytes = do
  b ← number_at Short w16 bytes
  if nat_lt b.0 1 || nat_lt MOST_WIDTH b.0 then Err (BadWidth b.0) else Ok b

-- The bucket of six bytes.
abbrev pub bucket_from : List ℕ → Bucket
bucket_from bytes = record { bytes = from_be_bytes w32 (take 4 bytes); delay = from_be_bytes w16 (take 2 (drop 4 bytes)) }

-- The buckets of that many rows.
abbrev pub buckets_from : ℕ → List ℕ → List Bucket
buckets_from zero bytes = []
buckets_from (suc n) bytes = bucket_from bytes ∷ buckets_from n (drop 6 bytes)

-- The cells of that many rows, and the bytes after them.
unfoldable pub cells_at : {E : Type 0} → (missing : E) → (rows : ℕ) → List ℕ → Result (Cells × List ℕ) E
cells_at missing rows bytes =
    if nat_lt (length bytes) (cells_len rows) then Err missing
    else Ok (cells_of (buckets_from rows bytes), drop (cells_len rows) bytes)

-- The letters and the version.
unfoldable pub marks_at : List ℕ → Result (List ℕ) WireFault
marks_at bytes = do
  a ← mark_at 0 76 bytes
  b ← mark_at 1 71 a
  mark_at 2 1 b

abbrev pub dims_of_parts : (rows width : ℕ) → Dims
dims_of_parts rows width = record { rows = rows; width = width }

-- Rows and width.
unfoldable pub dims_at : List ℕ → Result (Dims × List ℕ) WireFault
dims_at bytes = do
  rows ← rows_at bytes
  width ← width_at rows.1
  Ok (dims_of_parts rows.0 width.0, width.1)

abbrev pub key_of_parts : (switch epoch index : ℕ) → Key
key_of_parts switch epoch index = record { switch = switch; epoch = epoch; index = index }

-- A key, and the bytes after it.
unfoldable pub key_at : {E : Type 0} → (missing : E) → List ℕ → Result (Key × List ℕ) E
key_at missing bytes = do
  switch ← number_at missing w16 bytes
  epoch ← number_at missing w32 switch.1
  index ← number_at missing w16 epoch.1
  Ok (key_of_parts switch.0 epoch.0 index.0, index.1)

-- A key with an index below the width.
unfoldable pub admitted_key_at : (width : ℕ) → List ℕ → Result (Key × List ℕ) WireFault
admitted_key_at width bytes = do
  key ← key_at Short bytes
  if nat_lt key.0.index width then Ok key else Err (BadIndex key.0.index)

abbrev pub column_of_parts : Key → Dims → Cells → Column
column_of_parts key dims cells = record { key = key; dims = dims; cells = cells }

-- The column at the front, and the bytes after it.
unfoldable pub sketchlet_at : List ℕ → Result (Column × List ℕ) WireFault
sketchlet_at bytes = do
  rest ← marks_at bytes
  dims ← dims_at rest
  key ← admitted_key_at dims.0.width dims.1
  cells ← cells_at Short dims.0.rows key.1
  Ok (column_of_parts key.0 dims.0 cells.0, cells.1)

-- The column at the front, and the length of its spelling.
abbrev pub column_reading : List ℕ → Result (Column × ℕ) WireFault
column_reading bytes = sketchlet_at bytes >>= λ x. Ok (x.0, spelling_len x.0.dims.rows)
