-- A sketch that is made of the kept columns of a switch and epoch.
use Rattle.std.specs.Prelude.{◌≡◌, ℕ, ◌<◌, IsSomeAnd}
use Rattle.lg_model.specs.Placing.{Shape}
use Rattle.lg_model.specs.Sketch.{IsTable, bucket_in, bucket_at}
use Rattle.lg_model.specs.Answer.{Look}
use Rattle.sumax_sketch.specs.SketchState.{SketchState}
use Rattle.flow_query.specs.declared.rebuilding.RebuildFault.{RebuildFault}
use Rattle.flow_query.specs.declared.rebuilding.RebuildFault.TheVariants.{Missing, Memory}

-- The sketch of a switch and epoch, a table of the shape: each index j below the width has its column, and row i of that
-- column is the bucket (i, j).
pub record IsRebuilt (look : Look) (shape : Shape) (s e : ℕ) (sketch : SketchState) : Type 0 where
  pub same : sketch.shape ≡ shape
  pub table : IsTable shape sketch.table
  pub buckets : (i j : ℕ) → i < shape.rows → j < shape.width → IsSomeAnd (look s e j) (λ cells. bucket_at sketch.table i j ≡ bucket_in cells.buckets i)

-- Why there is none: fewer columns than the width are known; or there is no memory, where as many are known.
abbrev pub IsWanting : (known width : ℕ) → RebuildFault → Type 0
IsWanting known width (Missing n) = (n ≡ known) × (known < width)
IsWanting known width Memory = known ≡ width
