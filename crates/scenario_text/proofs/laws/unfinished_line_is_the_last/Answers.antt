use Rattle.scenario_text.proofs.UnfinishedLemmas.{counted}
use Rattle.scenario_text.proofs.laws.unfinished_line_is_the_last.Goals as goal

pub returns : goal.returns
returns c = counted
