use Rattle.std.proofs.Common.{◌<◌, ◌≤◌, arith}
use Rattle.sumax_sketch.proofs.Columns.{column_by_rows, rest_by_rows}
use Rattle.sumax_sketch.proofs.rows.column.Goals as goal

pub returns-clause-rows : goal.returns-clause-rows
returns-clause-rows c =
    let held = c.loop-i.invariant in
    column_by_rows c.args.index c.args.rows.now c.loop-i.column held.eight c.requires.few
    (λ k h. let in_loop : k < c.loop-i.i = omega arith in held.done k in_loop)

pub returns-clause-rest : goal.returns-clause-rest
returns-clause-rest c =
    let held = c.loop-i.invariant in
    rest_by_rows c.args.rows.now c.loop-i.column held.eight c.requires.few
    (λ k h. let past : c.loop-i.i ≤ k = omega arith in held.rest k past)
