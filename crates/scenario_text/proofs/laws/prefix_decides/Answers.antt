use Rattle.scenario_text.proofs.DecidingLemmas.{prefix}
use Rattle.scenario_text.proofs.laws.prefix_decides.Goals as goal

pub returns : goal.returns
returns c = prefix
