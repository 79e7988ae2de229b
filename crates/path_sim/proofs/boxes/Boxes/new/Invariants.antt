use Rattle.std.specs.Prelude.{◌≡◌, replicate, []}
use Rattle.path_sim.proofs.boxes.Boxes.new.Given as goal

abbrev pub invariant-loop-host : goal.invariant-loop-host
invariant-loop-host l = l.inboxes.items ≡ replicate l._host-index []
