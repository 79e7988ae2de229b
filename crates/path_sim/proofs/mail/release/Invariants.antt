use Rattle.std.specs.Prelude.{◌≡◌, ℕ, List, length, All}
use Rattle.lg_model.specs.Scenario.{Scenario}
use Rattle.lg_model.specs.Carrying as model
use Rattle.lg_model.specs.Columns.{Column}
use Rattle.lg_model.specs.Midway.{AreDelivered}
use Rattle.sketchlet_wire.specs.Packing.{IsPacked}
use Rattle.path_sim.specs.Holding.{AreHeld, IsInside}
use Rattle.path_sim.proofs.Settling.{Released}
use Rattle.path_sim.proofs.mail.release.Given as goal

abbrev pub invariant-loop-item : goal.invariant-loop-item
invariant-loop-item g l = record {
  inside : All (IsInside (length (g.O.Post.inboxes l.post))) l.held.items;
  held : (hs : List (ℕ × Column)) × AreHeld (g.O.Post.stands l.post) hs l.held.items;
  hosts : length (g.O.Post.inboxes l.post) ≡ length (g.O.Post.inboxes l.fn.post);
  noted : (w : Scenario) (cs : List model.Carry) → g.O.Post.notes l.fn.post w cs → g.O.Post.notes l.post w cs;
  arrived : (ds hs : List (ℕ × Column)) → AreHeld (g.O.Post.stands l.fn.post) hs l.fn.held.items → AreDelivered IsPacked ds (g.O.Post.inboxes l.fn.post)
      → Released (g.O.Post.stands l.post) ds hs l.held.items (g.O.Post.inboxes l.post);
}

abbrev pub decreases-loop-item : goal.decreases-loop-item
decreases-loop-item g l = length l.held.items
