-- What a source gives.
use Rattle.std.specs.Prelude.{◌≡◌, ℕ, ◌<◌, ◌≤◌, List, [], length, take, drop, Option, Some}

-- n bytes at the front of buf are the next of those that were left, at most want; none only where none were left.
pub record Comes (n want : ℕ) (bytes buf : List ℕ) (new : Option (List ℕ)) : Type 0 where
  pub front : take n buf ≡ take n bytes
  pub enough : n ≤ length bytes
  pub rest : new ≡ Some (drop n bytes)
  pub at_end : n ≡ 0 → 0 < want → bytes ≡ []
