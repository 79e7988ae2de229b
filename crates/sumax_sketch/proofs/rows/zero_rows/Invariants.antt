use Rattle.std.proofs.Common.{◌≡◌, replicate}
use Rattle.lg_model.specs.Sketch.{zero_bucket}
use Rattle.sumax_sketch.proofs.rows.zero_rows.Given as goal

abbrev pub invariant-loop-count : goal.invariant-loop-count
invariant-loop-count l = l.rows.items ≡ replicate l._count (replicate l.shape.width zero_bucket)
