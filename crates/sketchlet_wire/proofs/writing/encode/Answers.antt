use Rattle.std.proofs.Common.{arith}
use Rattle.sketchlet_wire.proofs.Columns.{spelling_length}
use Rattle.sketchlet_wire.proofs.writing.encode.Goals as goal

pub put_column-requires : goal.put_column-requires
put_column-requires c =
    let is = c.dims.ensures.admitted in
    omega (arith, spelling_length c.args.column.now is, is.few_rows, c.told-out)
