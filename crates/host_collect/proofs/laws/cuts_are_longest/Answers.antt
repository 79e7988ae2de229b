use Rattle.host_collect.proofs.Cutting.{cut_law}
use Rattle.host_collect.proofs.Fronts.{fronts_law}
use Rattle.host_collect.proofs.laws.cuts_are_longest.Goals as goal

pub returns-clause-cut : goal.returns-clause-cut
returns-clause-cut c = cut_law

pub returns-clause-longest : goal.returns-clause-longest
returns-clause-longest c = fronts_law
