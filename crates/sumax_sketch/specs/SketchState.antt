-- Sketches as the definitions speak of them.
use Rattle.std.specs.Prelude.{ℕ, List, map, slice_set}
use Rattle.std.specs.List.{enumerate_from}
use Rattle.lg_model.specs.declared.column.Bucket.{Bucket}
use Rattle.lg_model.specs.Placing as model
use Rattle.lg_model.specs.Sketch.{Table, zero_table, bucket_in}

-- A sketch: its shape and its table, which has the rows and the width of the shape.
pub record SketchState : Type 0 where
  pub shape : model.Shape
  pub table : Table

-- The sketch of zeros.
abbrev pub zero_sketch : model.Shape → SketchState
zero_sketch shape = record { shape = shape; table = zero_table shape }

-- A row with another bucket at index j: that of its row.
abbrev pub with_bucket : ℕ → List Bucket → ℕ × List Bucket → List Bucket
with_bucket j buckets (i, row) = slice_set row j (bucket_in buckets i)

-- A table with other buckets at index j, row 0 first. Buckets past the rows are not looked at.
abbrev pub with_column : ℕ → List Bucket → Table → Table
with_column j buckets table = map (with_bucket j buckets) (enumerate_from 0 table)
