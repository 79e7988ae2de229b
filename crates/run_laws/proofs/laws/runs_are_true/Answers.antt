use Rattle.run_laws.proofs.TrueRuns.{true_run}
use Rattle.run_laws.proofs.laws.runs_are_true.Goals as goal

pub returns : goal.returns
returns c = true_run
