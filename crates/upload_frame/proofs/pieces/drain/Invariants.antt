use Rattle.std.proofs.Common.{List, ℕ, length}
use Rattle.upload_frame.specs.Frames.{frames}
use Rattle.upload_frame.specs.Machine.{Follows}
use Rattle.upload_frame.proofs.pieces.drain.Given as goal

abbrev pub invariant-loop-frame : goal.invariant-loop-frame
invariant-loop-frame l = (stream : List ℕ) → Follows frames stream l.fn.out.items l.fn.reader → Follows frames stream l.out.items l.reader

abbrev pub decreases-loop-frame : goal.decreases-loop-frame
decreases-loop-frame l = length l.reader.rest
