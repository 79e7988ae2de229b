use Rattle.std.proofs.Common.{◌≡◌, ◌<◌, ◌≤◌, ◌+◌, ◌-◌, ◌*◌, ◌++◌, ℕ, List, length, take, drop, ap, ◌∙◌, arith}
use Rattle.std.specs.List.{flat_map}
use Rattle.std.proofs.lemmas.List.{take_all, length-append, length-drop, length-take}
use Rattle.lg_model.specs.declared.column.Bucket.{Bucket}
use Rattle.lg_model.specs.declared.column.Dims.{Dims}
use Rattle.sketchlet_wire.specs.Spelling.{bucket_bytes, cells_bytes}
use Rattle.sketchlet_wire.proofs.Fields.{buckets_len}
use Rattle.sketchlet_wire.proofs.Kept.{bucket_more}
use Rattle.sketchlet_wire.proofs.cells.put_cells.Goals as goal

pub loop-i-preserved : goal.loop-i-preserved
loop-i-preserved c =
    let bs : List Bucket = c.args.column.now.cells.buckets in
    let old : List ℕ = c.args.out.now in
    let i = c.loop-i.i in
    let n : ℕ = 6 * c.from.result in
    let rows : c.dims-rows.result.rows ≡ c.args.column.now.dims.rows = ap (λ (d : Dims). d.rows) c.dims-rows.ensures.value in
    let all : length bs ≡ c.args.column.now.dims.rows = c.dims-rows.ensures.admitted.cells.buckets in
    let inside : i < length bs = omega (arith, rows, all) in
    let fits : 6 * length bs ≤ length old = omega (arith, all, c.requires) in
    let text = bucket_more c.loop-i.out old c.put_bucket.new.out bs c.bucket.result i n (length c.loop-i.out - n)
    (omega (arith, c.from.ensures)) inside fits (omega (arith, c.loop-i.invariant.0)) c.bucket.ensures c.loop-i.invariant.1 c.put_bucket.ensures in (
      ap length text ∙ omega (
        arith,
        length-append (flat_map bucket_bytes (take (i + 1) bs)) (drop (6 * (i + 1)) old),
        buckets_len (take (i + 1) bs),
        length-take (i + 1) bs,
        length-drop (6 * (i + 1)) old,
        inside,
        fits,
      ),
      text,
    )

pub returns-clause-bytes : goal.returns-clause-bytes
unfolding cells_bytes
returns-clause-bytes c =
    let bs : List Bucket = c.args.column.now.cells.buckets in
    let old : List ℕ = c.args.out.now in
    let i = c.loop-i.i in
    let rows : c.dims-rows.result.rows ≡ c.args.column.now.dims.rows = ap (λ (d : Dims). d.rows) c.dims-rows.ensures.value in
    let all : length bs ≡ c.args.column.now.dims.rows = c.dims-rows.ensures.admitted.cells.buckets in
    let whole : take i bs ≡ bs = take_all i bs (omega (arith, rows, all)) in
    let same : 6 * i ≡ 6 * c.from-2.result = omega (arith, rows, c.from-2.ensures) in
    c.loop-i.invariant.1 ∙ ap (λ (x : List Bucket). flat_map bucket_bytes x ++ drop (6 * i) old) whole
    ∙ ap (λ (n : ℕ). flat_map bucket_bytes bs ++ drop n old) same
