use Rattle.std.specs.Prelude.{◌≡◌, ◌+◌, ◌<◌, Option, Some, length, slice_index_or}
use Rattle.std.specs.Option.{option_map}
use Rattle.std.proofs.Common.{sym, ap, ◌∙◌, subst, arith}
use Rattle.std.proofs.lemmas.List.{length-map}
use Rattle.lg_model.specs.Answer.{found}
use Rattle.lg_model.specs.Columns.{Cells, Column, dims_of}
use Rattle.sketchlet_wire.specs.Uploads.{no_column}
use Rattle.column_book.specs.Entries.{BookState, content, no_entry}
use Rattle.column_book.specs.declared.entry.Entry.{Entry}
use Rattle.column_book.specs.Kept.{shelf, column_under, entry_of}
use Rattle.column_book.proofs.Positions.{row_here, row_count, entry_at, column_in_row, surely_found}
use Rattle.column_book.proofs.book.Book.column_at.Goals as goal

pub returns : goal.returns
returns c =
    let b = c.self.inside in
    let dims = dims_of b.shape in
    let look = shelf b.shape.rows b.blocks.map.entries in
    let r = c.index.result.now in
    let q = c.index-2.result.now in
    let low = subst (λ (s : BookState). c.args.i < length s.entries) (sym c.self.view_is) c.requires.entry in
    let len = length-map b.rows.items (entry_of dims look b.keys.items) in
    let in_rows : c.args.i < length b.rows.items = omega (arith, low, len) in
    let row = row_here (length b.keys.items) b.rows.items c.args.i r c.self.invariant.cut in_rows c.index.ensures in
    let entry = entry_at dims look b.keys.items b.rows.items c.args.i r in_rows c.index.ensures in
    let in_entry = subst (λ (s : BookState). c.args.k < length (slice_index_or s.entries c.args.i no_entry).stored.columns) (sym c.self.view_is) c.requires.column in
    let columns = ap (λ (e : Entry). length e.stored.columns) entry ∙ row_count dims look b.keys.items r row in
    let in_row : c.args.k < r.head.count = omega (arith, in_entry, columns) in
    let inside = row.inside in
    let known = surely_found dims b.blocks.map.entries b.keys.items b.rows.items c.self.invariant (r.first + c.args.k) q (omega (arith, in_row, inside)) c.index-2.ensures in
    let view = ap {B = Option Column} (λ (s : BookState). option_map (λ (bs : Cells). record { key = q; dims = dims_of s.shape; cells = bs }) (found (content s.entries) q)) c.self.view_is in
    let found_here : c.find.result ≡ Some (column_under dims look q) = c.find.ensures.value ∙ sym view ∙ known in
    let one : c.in-Some.column ≡ column_under dims look q = cc (sym c.in-Some.is ∙ found_here) in
    one ∙ sym (column_in_row dims look b.keys.items r c.args.k q row in_row c.index-2.ensures) ∙ ap (λ (e : Entry). slice_index_or e.stored.columns c.args.k no_column) (sym entry)
    ∙ ap (λ (s : BookState). slice_index_or (slice_index_or s.entries c.args.i no_entry).stored.columns c.args.k no_column) c.self.view_is

pub unreachable-requires : goal.unreachable-requires
unreachable-requires c =
    let b = c.self.inside in
    let dims = dims_of b.shape in
    let look = shelf b.shape.rows b.blocks.map.entries in
    let r = c.index.result.now in
    let q = c.index-2.result.now in
    let low = subst (λ (s : BookState). c.args.i < length s.entries) (sym c.self.view_is) c.requires.entry in
    let len = length-map b.rows.items (entry_of dims look b.keys.items) in
    let in_rows : c.args.i < length b.rows.items = omega (arith, low, len) in
    let row = row_here (length b.keys.items) b.rows.items c.args.i r c.self.invariant.cut in_rows c.index.ensures in
    let entry = entry_at dims look b.keys.items b.rows.items c.args.i r in_rows c.index.ensures in
    let in_entry = subst (λ (s : BookState). c.args.k < length (slice_index_or s.entries c.args.i no_entry).stored.columns) (sym c.self.view_is) c.requires.column in
    let columns = ap (λ (e : Entry). length e.stored.columns) entry ∙ row_count dims look b.keys.items r row in
    let in_row : c.args.k < r.head.count = omega (arith, in_entry, columns) in
    let inside = row.inside in
    let known = surely_found dims b.blocks.map.entries b.keys.items b.rows.items c.self.invariant (r.first + c.args.k) q (omega (arith, in_row, inside)) c.index-2.ensures in
    let view = ap {B = Option Column} (λ (s : BookState). option_map (λ (bs : Cells). record { key = q; dims = dims_of s.shape; cells = bs }) (found (content s.entries) q)) c.self.view_is in
    let found_here : c.find.result ≡ Some (column_under dims look q) = c.find.ensures.value ∙ sym view ∙ known in
    c.in_default.not-Some (column_under dims look q) found_here
