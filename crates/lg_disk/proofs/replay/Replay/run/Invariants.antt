use Rattle.std.proofs.Common.{◌≡◌, take}
use Rattle.lg_disk.specs.Model.{run, start}
use Rattle.lg_disk.proofs.replay.Replay.run.Given as goal

abbrev pub invariant-loop-call : goal.invariant-loop-call
invariant-loop-call l = l.replay ≡ run (start l.first) (take l.call-index l.calls)
