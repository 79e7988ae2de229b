use Rattle.std.proofs.Common.{◌≡◌, ◌≤◌, ◌+◌, ◌-◌, ◌++◌, ℕ, List, length, take, drop, get_or, refl, sym, ap, ◌∙◌, arith, length-append}
use Rattle.std.specs.List.{flat_map}
use Rattle.std.proofs.lemmas.List.{length-take, length-drop}
use borrow.Rule.Slice.PartMut.{put_mid}
use Rattle.lg_model.specs.Columns.{Column}
use Rattle.sketchlet_wire.specs.Spelling.{spelling}
use Rattle.sketchlet_wire.proofs.Columns.{spelling_length}
use Rattle.sketchlet_wire.proofs.Kept.{put_there}
use Rattle.upload_frame.proofs.ColumnsOf.{text_more, within}
use Rattle.upload_frame.proofs.writing.put_columns.Goals as goal

pub put_column-at-requires : goal.put_column-at-requires
put_column-at-requires c =
    let cs = c.args.columns.now in
    let i = c.loop-column.column-index in
    let d = c.column-item.result in
    let front : List ℕ = flat_map spelling (take i cs) in
    let more = ap length (text_more cs i d c.loop-column-test.true) in
    let one : length (spelling d) ≡ length (spelling (get_or cs i d)) = ap (λ (x : Column). length (spelling x)) c.column-item.is in
    omega (
      arith,
      more,
      one,
      length-append front (spelling (get_or cs i d)),
      within cs (i + 1),
      c.requires,
      c.loop-column.invariant.0,
      c.loop-column.invariant.1,
      length-take (length c.loop-column.out - c.loop-column.at) (drop c.loop-column.at c.loop-column.out),
      length-drop c.loop-column.at c.loop-column.out,
    )

pub loop-column-preserved : goal.loop-column-preserved
loop-column-preserved c =
    let cs = c.args.columns.now in
    let i = c.loop-column.column-index in
    let d = c.column-item.result in
    let old : List ℕ = c.args.out.now in
    let out : List ℕ = c.loop-column.out in
    let at : ℕ = c.loop-column.at in
    let t : ℕ = c.put_column-at.result in
    let k : ℕ = length out - at in
    let front : List ℕ = flat_map spelling (take i cs) in
    let next : List ℕ = flat_map spelling (take (i + 1) cs) in
    let more : next ≡ front ++ spelling d =
    text_more cs i d c.loop-column-test.true ∙ ap (λ (x : Column). front ++ spelling x) (sym c.column-item.is) in
    let len : at + t ≡ length next =
    omega (
      arith,
      ap length more,
      length-append front (spelling d),
      spelling_length d c.put_column-at.ensures.admitted,
      c.put_column-at.ensures.len,
      c.loop-column.invariant.0,
    ) in
    let fits : at + t ≤ length old = omega (arith, len, within cs (i + 1), c.requires) in
    let text : put_mid at k out c.put_column-at.new.out ≡ next ++ drop (at + t) old =
    put_there front (spelling d) out old c.put_column-at.new.out at k t (at + t) (sym c.loop-column.invariant.0) c.loop-column.invariant.2
    (omega (arith, fits)) (omega (arith, c.loop-column.invariant.1)) refl c.put_column-at.ensures.bytes
    ∙ ap (λ (x : List ℕ). x ++ drop (at + t) old) (sym more) in
    (len, ap length text ∙ omega (arith, length-append next (drop (at + t) old), length-drop (at + t) old, len, fits), text)
