use Rattle.std.proofs.Common.{ℕ, ◌<◌, get_or}
use Rattle.lg_model.specs.Sketch.{zero_bucket}
use Rattle.sketchlet_wire.specs.Spelling.{FitsBucket}
use Rattle.sketchlet_wire.proofs.ranges.buckets_fit.Given as goal

abbrev pub invariant-loop-bucket : goal.invariant-loop-bucket
invariant-loop-bucket l = (k : ℕ) → k < l.bucket-index → FitsBucket (get_or l.buckets k zero_bucket)
