-- What always holds of the two sketches of a switch.
use Rattle.std.specs.Prelude.{◌≡◌, ℕ, ◌≤◌, List, length, slice_index}
use Rattle.lg_model.specs.Placing.{Shape, IsShape}
use Rattle.sumax_sketch.specs.SketchState.{SketchState}

-- Both sketches have the shape, each index below the width has its count, and no count is above that of all.
pub record ArePaired (shape : Shape) (current frozen : SketchState) (put : ℕ) (times : List ℕ) : Type 0 where
  pub range : IsShape shape.rows shape.width
  pub counts : current.shape ≡ shape
  pub rests : frozen.shape ≡ shape
  pub wide : length times ≡ shape.width
  pub few : (j : ℕ) → slice_index times j ≤ put
