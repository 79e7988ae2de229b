use Rattle.std.proofs.Common.{◌≡◌, ◌++◌, take, drop, length}
use Rattle.std.specs.List.{flat_map}
use Rattle.sketchlet_wire.specs.Spelling.{spelling}
use Rattle.upload_frame.proofs.writing.put_columns.Given as goal

abbrev pub invariant-loop-column : goal.invariant-loop-column
invariant-loop-column l =
    (l.at ≡ length (flat_map spelling (take l.column-index l.columns))) × (length l.out ≡ length l.fn.out)
    × (l.out ≡ flat_map spelling (take l.column-index l.columns) ++ drop l.at l.fn.out)
