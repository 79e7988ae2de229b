use Rattle.lg_model.proofs.Bounding.{bound}
use Rattle.lg_model.proofs.laws.counters_are_bounds.Goals as goal

pub returns : goal.returns
returns c = bound
