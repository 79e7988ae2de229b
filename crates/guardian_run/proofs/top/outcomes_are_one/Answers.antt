use Rattle.guardian_run.proofs.OneOutcome.{one_outcome}
use Rattle.guardian_run.proofs.top.outcomes_are_one.Goals as goal

pub returns : goal.returns
returns c = one_outcome
