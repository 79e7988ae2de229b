use Rattle.std.proofs.Common.{◌∙◌, ◌<◌, ◌^◌, List, length, sym, ap, subst, arith}
use Rattle.std.specs.List.{AllByRecursion}
use Rattle.lg_model.specs.Columns.{Column}
use Rattle.sketchlet_wire.specs.Uploads.{UploadData, IsFull}
use Rattle.uploader_core.specs.Uploader.{AreOwn}
use Rattle.upload_frame.specs.Pooled.{items_at}
use Rattle.host_collect.specs.Cutting.{cut, numbered}
use Rattle.host_collect.specs.PackedUploads.{columns_at}
use Rattle.host_collect.proofs.PackedCuts.{columns_len}
use Rattle.host_collect.proofs.PackedParts.{whole, columns_are, own}
use Rattle.host_collect.proofs.packed_uploads.PackedUploads.new.Goals as goal

pub invariant_of-result : goal.invariant_of-result
invariant_of-result c =
    let pool = c.args.pool.now in
    let places = c.args.places.now in
    let cs : List Column = columns_at pool places in
    let few : length cs < 2 ^ 32 = omega (arith, columns_len pool places, c.requires.count) in
    record {
      columns = c.requires.columns;
      within = c.in_ok-ends.ensures.ends;
      full = subst (AllByRecursion IsFull) (sym (c.in_ok-ends.ensures.cut c.args.host))
          (whole c.args.host (items_at pool places) cs c.ranges.host.fits few c.requires.columns.packed);
    }

pub returns-clause-value : goal.returns-clause-value
returns-clause-value c = λ cs all.
    c.in_ok-ends.ensures.cut c.args.host
    ∙ ap (λ (xs : List Column). numbered c.args.host (cut xs)) (columns_are (items_at c.args.pool.now c.args.places.now) cs all)

pub returns-clause-own : goal.returns-clause-own
returns-clause-own c =
    let cs : List Column = columns_at c.args.pool.now c.args.places.now in
    let few : length cs < 2 ^ 32 = omega (arith, columns_len c.args.pool.now c.args.places.now, c.requires.count) in
    subst (AreOwn c.args.host) (sym (c.in_ok-ends.ensures.cut c.args.host)) (own c.args.host cs few).0

pub returns-clause-few : goal.returns-clause-few
returns-clause-few c =
    let size = columns_len c.args.pool.now c.args.places.now in
    let cs : List Column = columns_at c.args.pool.now c.args.places.now in
    let few : length cs < 2 ^ 32 = omega (arith, size, c.requires.count) in
    omega (arith, size, ap (λ (us : List UploadData). length us) (c.in_ok-ends.ensures.cut c.args.host), (own c.args.host cs few).1)
