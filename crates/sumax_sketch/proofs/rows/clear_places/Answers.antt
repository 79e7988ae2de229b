use Rattle.std.proofs.Common.{◌<◌, arith}
use Rattle.sumax_sketch.proofs.rows.clear_places.Goals as goal

pub returns : goal.returns
returns c =
    let held = c.loop-i.invariant in
    record { rows = held.same_length; each = λ k h. let in_loop : k < c.loop-i.i = omega arith in held.done k in_loop }
