use Rattle.std.proofs.Common.{◌<◌, arith}
use Rattle.sumax_sketch.proofs.Columns.{with_column_by_rows}
use Rattle.sumax_sketch.proofs.rows.set_column.Goals as goal

pub returns : goal.returns
returns c =
    let held = c.loop-i.invariant in
    with_column_by_rows c.args.index c.args.buckets.now c.args.rows.now c.loop-i.rows held.same_length
    (λ k h. let in_loop : k < c.loop-i.i = omega arith in held.done k in_loop)
