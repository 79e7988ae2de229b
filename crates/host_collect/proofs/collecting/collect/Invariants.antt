use Rattle.std.proofs.Common.{◌≡◌, List, take}
use Rattle.lg_model.specs.Columns.{Column}
use Rattle.lg_model.specs.Matching.{Matched}
use Rattle.sketchlet_wire.specs.Packing.{IsPacked}
use Rattle.host_collect.specs.Collecting.{HasCut}
use Rattle.host_collect.proofs.collecting.collect.Given as goal

abbrev pub invariant-loop-item : goal.invariant-loop-item
invariant-loop-item l = (cs : List Column) × Matched IsPacked (take l.item-index l.items) cs × HasCut cs l.given.items l.cutter × (l.cutter.host ≡ l.host)
