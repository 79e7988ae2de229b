use Rattle.std.proofs.Common.{◌≡◌, take, drop, length, ◌+◌, ◌-◌, ◌*◌, ap, arith, ◌∙◌}
use Rattle.std.proofs.lemmas.List.{take_all, length-append, length-drop}
use Rattle.sketchlet_wire.specs.Reading.{bucket_from, buckets_from}
use Rattle.sketchlet_wire.proofs.Fields.{buckets_from_len}
use Rattle.sketchlet_wire.proofs.Kept.{read_more}
use Rattle.sketchlet_wire.proofs.cells.fill.Goals as goal

pub loop-i-preserved : goal.loop-i-preserved
loop-i-preserved c =
    let rest = drop (6 * c.loop-i.i) c.args.bytes.now in
    let whole : take (length c.args.bytes.now - 6 * c.loop-i.i) rest ≡ rest =
    take_all (length c.args.bytes.now - 6 * c.loop-i.i) rest (omega (arith, length-drop (6 * c.loop-i.i) c.args.bytes.now)) in
    let b : c.bucket_of.result ≡ bucket_from rest = c.bucket_of.ensures ∙ ap bucket_from whole in
    let i = c.loop-i.i in
    let bytes = c.args.bytes.now in
    let old = c.args.kept.now in
    let more = read_more i bytes c.loop-i.kept old (omega arith) c.loop-i.invariant.1 in
    rw b (
      ap length more ∙ omega (arith, length-append (buckets_from (i + 1) bytes) (drop (i + 1) old), buckets_from_len (i + 1) bytes, length-drop (i + 1) old),
      more,
    )
