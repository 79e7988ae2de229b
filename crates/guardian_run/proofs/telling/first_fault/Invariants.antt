use Rattle.std.specs.Prelude.{All, take}
use Rattle.guardian_run.specs.Sending.{IsFine}
use Rattle.guardian_run.proofs.telling.first_fault.Given as goal

abbrev pub invariant-loop-done : goal.invariant-loop-done
invariant-loop-done l = All IsFine (take l.done-index l.senders)
