use Rattle.guardian_run.specs.Sending.{AreSenders}
use Rattle.guardian_run.proofs.storing.senders.Given as goal

abbrev pub invariant-loop-at : goal.invariant-loop-at
invariant-loop-at l = AreSenders l.scenario l.at l.senders.items
