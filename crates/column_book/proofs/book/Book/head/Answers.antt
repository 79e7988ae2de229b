use Rattle.std.specs.Prelude.{◌<◌, length, slice_index_or}
use Rattle.std.proofs.Common.{sym, ap, ◌∙◌, subst, arith}
use Rattle.std.proofs.lemmas.List.{length-map}
use Rattle.lg_model.specs.Columns.{dims_of}
use Rattle.column_book.specs.Entries.{BookState, head_of, no_entry}
use Rattle.column_book.specs.Kept.{shelf, entry_of}
use Rattle.column_book.proofs.Positions.{head_at}
use Rattle.column_book.proofs.book.Book.head.Goals as goal

pub returns : goal.returns
returns c =
    let b = c.self.inside in
    let look = shelf b.shape.rows b.blocks.map.entries in
    let low = subst (λ (s : BookState). c.args.i < length s.entries) (sym c.self.view_is) c.requires in
    let len = length-map b.rows.items (entry_of (dims_of b.shape) look b.keys.items) in
    head_at (dims_of b.shape) look b.keys.items b.rows.items c.args.i c.index.result.now c.self.invariant.cut (omega (arith, low, len)) c.index.ensures
    ∙ ap (λ (s : BookState). head_of (slice_index_or s.entries c.args.i no_entry)) c.self.view_is
