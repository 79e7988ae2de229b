use Rattle.std.proofs.Common.{◌∙◌, sym, ap}
use Rattle.host_collect.specs.PackedUploads.{start_of}
use Rattle.host_collect.proofs.PackedParts.{start_first, start_before}
use Rattle.host_collect.proofs.packed_uploads.range_of.Goals.{then-at-eq0, else-at-eq0}
use Rattle.host_collect.proofs.packed_uploads.range_of.Goals as goal

pub returns-clause-from : goal.returns-clause-from
returns-clause-from c =
    elim c.if-at-eq0.branch [
      | then-at-eq0 w ↦ w.from-is ∙ sym (ap (start_of 0 c.args.ends.now) w.if-at-eq0.true ∙ start_first 0 c.args.ends.now)
      | else-at-eq0 w ↦ w.from-is ∙ sym (start_before 0 c.args.ends.now c.args.at w.if-at-eq0.false c.requires)
    ]
