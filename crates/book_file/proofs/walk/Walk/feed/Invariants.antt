use Rattle.std.proofs.Common.{◌≡◌, ◌++◌, ℕ, List, length}
use Rattle.book_file.specs.Walk.{Fed}
use Rattle.book_file.proofs.walk.Walk.feed.Given as goal

abbrev pub invariant-loop-left : goal.invariant-loop-left
invariant-loop-left l = (done : List ℕ) × (done ++ l.left ≡ l.piece) × Fed l.fn.self l.self done

abbrev pub decreases-loop-left : goal.decreases-loop-left
decreases-loop-left l = length l.left
