use Rattle.std.proofs.Common.{◌≡◌, ◌++◌, ◌*◌, drop, take, length}
use Rattle.std.specs.List.{flat_map}
use Rattle.sketchlet_wire.specs.Spelling.{bucket_bytes}
use Rattle.sketchlet_wire.proofs.cells.put_cells.Given as goal

abbrev pub invariant-loop-i : goal.invariant-loop-i
invariant-loop-i l = (length l.out ≡ length l.fn.out) × (l.out ≡ flat_map bucket_bytes (take l.i l.column.cells.buckets) ++ drop (6 * l.i) l.fn.out)
