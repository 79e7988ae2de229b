use Rattle.std.proofs.Common.{◌≡◌, ◌≤◌, ◌*◌, length, take}
use Rattle.std.specs.List.{flat_map}
use Rattle.sketchlet_wire.specs.Spelling.{spelling}
use Rattle.upload_frame.proofs.writing.columns_len.Given as goal

abbrev pub invariant-loop-column : goal.invariant-loop-column
invariant-loop-column l = (l.len ≡ length (flat_map spelling (take l.column-index l.columns))) × (l.len ≤ 62 * l.column-index)
