use Rattle.std.proofs.Common.{◌≡◌, take, replicate}
use Rattle.lg_model.specs.Sketch.{zero_bucket}
use Rattle.sketchlet_wire.proofs.column.clear.Given as goal

abbrev pub invariant-loop-bucket : goal.invariant-loop-bucket
invariant-loop-bucket l = take l.bucket-index l.buckets ≡ replicate l.bucket-index zero_bucket
