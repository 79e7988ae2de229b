use Rattle.sketchlet_wire.proofs.Columns.{law}
use Rattle.sketchlet_wire.proofs.laws.spellings_are_apart.Goals as goal

pub returns : goal.returns
returns c = law
