-- Reading a column of a body, where the size of the sketches is known.
use Rattle.std.specs.Prelude.{ℕ, List, Result, Ok, Err, nat_lt, if◌then◌else◌}
use Rattle.byte_fields.specs.Reading.{◌>>=◌}
use Rattle.lg_model.specs.declared.column.Dims.{Dims}
use Rattle.lg_model.specs.Columns.{Column}
use Rattle.sketchlet_wire.specs.declared.fault.WireFault.{WireFault}
use Rattle.sketchlet_wire.specs.declared.fault.WireFault.TheVariants.{Short, BadIndex}
use Rattle.sketchlet_wire.specs.Reading.{key_at, cells_at, column_of_parts}

-- The column at the front, and the bytes after it: a key with an index below the width, and its cells.
unfoldable pub column_at : Dims → List ℕ → Result (Column × List ℕ) WireFault
column_at dims bytes = do
  key ← key_at Short bytes
  cells ← cells_at Short dims.rows key.1
  if nat_lt key.0.index dims.width then Ok (column_of_parts key.0 dims cells.0, cells.1) else Err (BadIndex key.0.index)
