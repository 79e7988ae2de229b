use Rattle.lg_model.proofs.LowCounters.{limits}
use Rattle.lg_model.proofs.laws.counters_stay_low.Goals as goal

pub returns : goal.returns
returns c = limits
