use Rattle.std.proofs.Common.{◌≡◌, ◌++◌, drop, ◌-◌, length, ap, ◌∙◌, refl, arith}
use Rattle.lg_model.specs.declared.column.Key.{Key}
use Rattle.lg_model.specs.declared.column.Dims.{Dims}
use Rattle.sketchlet_wire.specs.Spelling.{marks, dims_bytes, column_key_bytes, cells_bytes}
use Rattle.std.proofs.lemmas.List.{length-take, length-drop}
use Rattle.sketchlet_wire.proofs.Columns.{spelling_length}
use Rattle.sketchlet_wire.proofs.Kept.{cells_put}
use Rattle.sketchlet_wire.proofs.writing.put_column.Goals as goal

pub put_head-requires : goal.put_head-requires
put_head-requires c = omega (arith, spelling_length c.args.column.now c.key.ensures.admitted, c.requires)

pub slice_bounds-put_cells-count : goal.slice_bounds-put_cells-count
slice_bounds-put_cells-count c = omega (arith, spelling_length c.args.column.now c.key.ensures.admitted, c.requires, c.put_head.ensures.len)

pub slice_bounds-put_cells-start : goal.slice_bounds-put_cells-start
slice_bounds-put_cells-start c = omega (arith, spelling_length c.args.column.now c.key.ensures.admitted, c.requires, c.put_head.ensures.len)

pub put_cells-requires : goal.put_cells-requires
put_cells-requires c =
    omega (
      arith,
      spelling_length c.args.column.now c.key.ensures.admitted,
      c.requires,
      c.put_head.ensures.len,
      length-take (length c.put_head.new.out - 14) (drop 14 c.put_head.new.out),
      length-drop 14 c.put_head.new.out,
    )

pub returns-clause-bytes : goal.returns-clause-bytes
unfolding marks dims_bytes column_key_bytes
returns-clause-bytes c =
    let column = c.args.column.now in
    let head : c.put_head.new.out ≡ marks ++ (dims_bytes column.dims ++ (column_key_bytes column.key ++ drop 14 c.args.out.now)) =
    c.put_head.ensures.bytes ∙ ap (λ (d : Dims). marks ++ (dims_bytes d ++ (column_key_bytes c.key.result ++ drop 14 c.args.out.now))) c.dims.ensures.value
    ∙ ap (λ (k : Key). marks ++ (dims_bytes column.dims ++ (column_key_bytes k ++ drop 14 c.args.out.now))) c.key.ensures.value in
    cells_put marks (dims_bytes column.dims) (column_key_bytes column.key)
    (cells_bytes column.cells) c.put_head.new.out c.args.out.now c.put_cells.new.out (length c.put_head.new.out - 14) c.put_cells.result
    refl
    (omega (arith, spelling_length column c.key.ensures.admitted, c.requires)) (omega (arith, c.put_head.ensures.len)) head c.put_cells.ensures.bytes
