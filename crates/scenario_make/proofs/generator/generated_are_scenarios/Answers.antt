use Rattle.scenario_make.proofs.Whole.{generated_is}
use Rattle.scenario_make.proofs.generator.generated_are_scenarios.Goals as goal

pub returns : goal.returns
returns c = generated_is
