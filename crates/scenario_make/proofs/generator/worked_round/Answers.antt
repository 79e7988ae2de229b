use Rattle.scenario_make.proofs.WorkedRound.{worked}
use Rattle.scenario_make.proofs.generator.worked_round.Goals as goal

pub returns : goal.returns
returns c = worked
