use Rattle.std.proofs.Common.{◌≡◌, ◌++◌, drop, length}
use Rattle.sketchlet_wire.specs.Reading.{buckets_from}
use Rattle.sketchlet_wire.proofs.cells.fill.Given as goal

abbrev pub invariant-loop-i : goal.invariant-loop-i
invariant-loop-i l = (length l.kept ≡ length l.fn.kept) × (l.kept ≡ buckets_from l.i l.bytes ++ drop l.i l.fn.kept)
