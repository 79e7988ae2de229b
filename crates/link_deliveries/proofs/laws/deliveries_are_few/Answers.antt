use Rattle.link_deliveries.proofs.Fewness.{fewness}
use Rattle.link_deliveries.proofs.laws.deliveries_are_few.Goals as goal

pub returns : goal.returns
returns c = fewness
