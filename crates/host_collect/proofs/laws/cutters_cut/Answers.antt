use Rattle.host_collect.proofs.Cutters.{law}
use Rattle.host_collect.proofs.laws.cutters_cut.Goals as goal

pub returns : goal.returns
returns c = law
