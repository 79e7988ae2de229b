-- Columns: what one index of a sketch holds over all rows.
use Rattle.std.specs.Prelude.{List}
use Rattle.lg_model.specs.declared.column.Bucket.{Bucket}
use Rattle.lg_model.specs.declared.column.Key.{Key}
use Rattle.lg_model.specs.declared.column.Dims.{Dims}
use Rattle.lg_model.specs.Placing.{Shape}

-- The counters of a column: a bucket for each row, row 0 first.
pub record Cells : Type 0 where
  pub buckets : List Bucket

-- A column: what names it, the size of the sketch that it is of, and its counters.
pub record Column : Type 0 where
  pub key : Key
  pub dims : Dims
  pub cells : Cells

abbrev pub cells_of : List Bucket → Cells
cells_of buckets = record { buckets = buckets }

-- The size of the sketches of a shape.
abbrev pub dims_of : Shape → Dims
dims_of shape = record { rows = shape.rows; width = shape.width }
