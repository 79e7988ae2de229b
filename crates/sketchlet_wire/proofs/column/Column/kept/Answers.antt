use Rattle.sketchlet_wire.proofs.Kept.{is_kept}
use Rattle.sketchlet_wire.proofs.column.Column.kept.Goals as goal

pub invariant_of-result : goal.invariant_of-result
invariant_of-result c = is_kept c.args.key c.args.dims c.args.buckets c.requires.admitted c.key_fits.ensures.switch c.key_fits.ensures.epoch c.buckets_fit.ensures.len c.buckets_fit.ensures.fit c.requires.zeros
