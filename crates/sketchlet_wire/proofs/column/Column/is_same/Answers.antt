use Rattle.std.proofs.Common.{◌∙◌, sym}
use Rattle.sketchlet_wire.proofs.Same.{column_same}
use Rattle.sketchlet_wire.proofs.column.Column.is_same.Goals as goal

pub returns-clause-same : goal.returns-clause-same
returns-clause-same c = λ e. (column_same c.args.self.now c.args.other.now).0 (sym c.eq.ensures ∙ e)

pub returns-clause-found : goal.returns-clause-found
returns-clause-found c = λ e. c.eq.ensures ∙ (column_same c.args.self.now c.args.other.now).1 e
