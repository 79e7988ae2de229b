use Rattle.std.proofs.Common.{◌≡◌, ◌+◌, length}
use Rattle.book_file.proofs.tests.found_in.Given as goal

abbrev pub invariant-loop-left : goal.invariant-loop-left
invariant-loop-left l = l.walk.fed + length l.left ≡ l.walk.len

abbrev pub decreases-loop-left : goal.decreases-loop-left
decreases-loop-left l = length l.left
