-- A disk over a real file, as contracts see it.
use Rattle.std.specs.Prelude.{ℕ, List}

-- The name of the file, and the faults so far. Nothing is told of its bytes.
pub record FileState : Type 0 where
  pub name : List ℕ
  pub faults : ℕ
