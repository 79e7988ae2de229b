use Rattle.sketchlet_wire.proofs.Fields.{key_len, key_again, key_takes, cells_length, cells_again, cells_take}
use Rattle.sketchlet_wire.proofs.Shapes.{shape_len, shape_again, shape_takes}
use Rattle.sketchlet_wire.proofs.laws.fields_are_read_back.Goals as goal

pub returns-clause-keys : goal.returns-clause-keys
returns-clause-keys g c = record { len = key_len; again = key_again c.args.missing; takes = key_takes c.args.missing }

pub returns-clause-cells : goal.returns-clause-cells
returns-clause-cells g c = record { len = cells_length; again = cells_again c.args.missing; takes = cells_take c.args.missing }

pub returns-clause-shapes : goal.returns-clause-shapes
returns-clause-shapes g c = record { len = shape_len; again = shape_again c.args.missing c.args.bad; takes = shape_takes c.args.missing c.args.bad }
