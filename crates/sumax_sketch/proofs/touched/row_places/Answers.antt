use Rattle.std.proofs.Common.{◌<◌, arith}
use Rattle.sumax_sketch.proofs.touched.row_places.Goals as goal

pub returns : goal.returns
returns c = λ k h. let in_loop : k < c.loop-i.i = omega arith in c.loop-i.invariant.done k in_loop
