use Rattle.std.proofs.Common.{◌≡◌, ◌++◌, ◌∙◌, ℕ, List, take, length, ap, sym, append_assoc}
use Rattle.std.proofs.lemmas.List.{append-nil, take_at}
use Rattle.sketchlet_wire.specs.Spelling.{column_key_bytes, cells_bytes}
use Rattle.sketchlet_wire.proofs.Fields.{cells_length}
use Rattle.book_file.proofs.writing.put_column.Goals as goal

pub returns : goal.returns
returns c =
    let column = c.args.column.now in
    let key : c.put_key.new.out ≡ column_key_bytes column.key = c.put_key.ensures ∙ append-nil (column_key_bytes c.key.result)
    ∙ ap column_key_bytes c.key.ensures.value in
    let len : length (cells_bytes column.cells) ≡ c.put_cells-len.result =
    cells_length column.dims.rows column.cells c.key.ensures.admitted.cells ∙ sym c.put_cells-len.ensures.len in
    let cells : take c.put_cells-len.result c.put_cells-len.new.out ≡ cells_bytes column.cells =
    ap (λ (l : List ℕ). take c.put_cells-len.result l) c.put_cells-len.ensures.bytes
    ∙ take_at (cells_bytes column.cells) _ c.put_cells-len.result len in
    let front = c.in_ok-extend_from_slice.ensures.items ∙ ap (λ (l : List ℕ). c.args.out.now.items ++ l) key in
    c.in_ok-extend_from_slice-2.ensures.items ∙ (λ i. front i ++ cells i) ∙ append_assoc c.args.out.now.items (column_key_bytes column.key)
    (cells_bytes column.cells)
