-- A table of where names stand.
use Rattle.std.specs.Prelude.{◌≡◌, ℕ, ◌<◌, List, length, slice_index}

-- The table has for each name its position among the names; at numbers that are no name it may hold anything.
pub record IsIndexed (names at : List ℕ) : Type 0 where
  pub few : length names < 65536
  pub known : (i : ℕ) → i < length names → slice_index names i < length at
  pub stands : (i : ℕ) → i < length names → slice_index at (slice_index names i) ≡ i
