use Rattle.lg_model.proofs.ArrivalCounts.{few_brought}
use Rattle.lg_model.proofs.laws.arrivals_are_few.Goals as goal

pub returns : goal.returns
returns c = few_brought
