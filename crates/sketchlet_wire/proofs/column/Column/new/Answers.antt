use Rattle.std.proofs.Common.{arith}
use Rattle.sketchlet_wire.proofs.Kept.{cleared}
use Rattle.sketchlet_wire.proofs.column.Column.new.Goals as goal

pub kept-requires-clause-zeros : goal.kept-requires-clause-zeros
kept-requires-clause-zeros c = cleared c.args.dims.rows c.args.buckets c.clear.new.buckets (omega arith) (omega arith) c.clear.ensures
