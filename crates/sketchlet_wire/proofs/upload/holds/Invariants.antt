use Rattle.std.proofs.Common.{◌≡◌, take, false}
use Rattle.sketchlet_wire.specs.Uploads.{holds_key}
use Rattle.sketchlet_wire.proofs.upload.holds.Given as goal

abbrev pub invariant-loop-column : goal.invariant-loop-column
invariant-loop-column l = holds_key l.key (take l.column-index l.columns) ≡ false
