use Rattle.sumax_sketch.proofs.Clearing.{IsClearedTo}
use Rattle.sumax_sketch.proofs.touched.Touched.clear_noted.Given as goal

abbrev pub invariant-loop-n : goal.invariant-loop-n
invariant-loop-n l = IsClearedTo l.n l.self l.initial.rows l.rows
