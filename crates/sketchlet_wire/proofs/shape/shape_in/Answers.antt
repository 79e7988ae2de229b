use Rattle.sketchlet_wire.proofs.Shapes.{shape_made}
use Rattle.sketchlet_wire.proofs.shape.shape_in.Goals as goal

pub returns : goal.returns
returns c = shape_made c.args.rows c.args.width c.args.hash c.new.result c.new.ensures
