use Rattle.std.proofs.Common.{length}
use Rattle.scenario_parts.proofs.put.+put_delays.Given as goal

abbrev pub decreases-put_delays : goal.decreases-put_delays
decreases-put_delays g l = length l.delays.now
