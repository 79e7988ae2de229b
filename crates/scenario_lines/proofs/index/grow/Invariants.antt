use Rattle.std.proofs.Common.{◌≡◌, ◌≤◌, ◌-◌, length, take, List, ℕ}
use Rattle.scenario_lines.proofs.index.grow.Given as goal

pub record Grown (old now : List ℕ) : Type 0 where
  pub longer : length old ≤ length now
  pub kept : take (length old) now ≡ old

abbrev pub invariant-loop-positions : goal.invariant-loop-positions
invariant-loop-positions l = Grown l.fn.positions.items l.positions.items

abbrev pub decreases-loop-positions : goal.decreases-loop-positions
decreases-loop-positions l = l.len - length l.positions.items
