use Rattle.scenario_text.proofs.ShortestLemmas.{shortest}
use Rattle.scenario_text.proofs.laws.prefix_is_shortest.Goals as goal

pub returns : goal.returns
returns c = shortest
