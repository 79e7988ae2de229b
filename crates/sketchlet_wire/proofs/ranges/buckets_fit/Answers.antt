use Rattle.std.proofs.Common.{below_more, inl, inr, sym, subst, arith}
use Rattle.std.proofs.lemmas.Bool.{cases_lt}
use Rattle.std.proofs.lemmas.List.{get_or_past}
use Rattle.lg_model.specs.Sketch.{zero_bucket}
use Rattle.sketchlet_wire.specs.Spelling.{FitsBucket}
use Rattle.sketchlet_wire.proofs.Fields.{zero_fits}
use Rattle.sketchlet_wire.proofs.ranges.buckets_fit.Goals as goal

pub loop-bucket-preserved : goal.loop-bucket-preserved
loop-bucket-preserved c = below_more _ _ c.loop-bucket.invariant c.bucket_fits.ensures

pub returns-clause-fit : goal.returns-clause-fit
returns-clause-fit c = λ i.
    elim (cases_lt i c.loop-bucket.bucket-index) [
      | inl lt ↦ c.loop-bucket.invariant i lt
      | inr le ↦ subst FitsBucket (sym (get_or_past c.args.buckets.now i zero_bucket (omega arith))) zero_fits
    ]
