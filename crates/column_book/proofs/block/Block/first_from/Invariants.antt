use Rattle.std.specs.Prelude.{◌≡◌, ◌≤◌, ◌<◌, ℕ, None}
use Rattle.column_book.specs.Blocks.{kept_in}
use Rattle.column_book.proofs.block.Block.first_from.Given as goal

abbrev pub invariant-loop-place : goal.invariant-loop-place
invariant-loop-place l = (i : ℕ) → l.from ≤ i → i < l.place → kept_in l.self i ≡ None
