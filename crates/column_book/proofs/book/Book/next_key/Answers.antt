use Rattle.std.specs.Prelude.{◌<◌, is_some}
use Rattle.std.specs.Option.{option_map}
use Rattle.std.proofs.Common.{sym, ap, ◌∙◌, subst, arith}
use Rattle.lg_model.specs.declared.column.Key.{Key}
use Rattle.lg_model.specs.Answer.{found}
use Rattle.lg_model.specs.Columns.{dims_of}
use Rattle.column_book.specs.Blocks.{kept_at}
use Rattle.column_book.specs.Entries.{BookState, content}
use Rattle.column_book.specs.Kept.{shelf, entries_of}
use Rattle.column_book.specs.Order.{IsNext}
use Rattle.column_book.proofs.Cuts.{on_shelf}
use Rattle.column_book.proofs.Finding.{found_in_book, holds_of_member}
use Rattle.column_book.proofs.Walks.{next_same}
use Rattle.column_book.proofs.book.Book.next_key.Goals as goal

pub next_in-requires : goal.next_in-requires
next_in-requires c =
    let b = c.self.inside in
    let h = c.self.invariant in
    let wide = h.wide in
    λ q kept. let low : q.index < b.shape.width = holds_of_member (λ (k : Key). k.index < b.shape.width) b.keys.items q h.inside (sym (h.known.there q) ∙ kept) in omega (arith, low, wide)

pub returns : goal.returns
returns c =
    let b = c.self.inside in
    let dims = dims_of b.shape in
    let es = b.blocks.map.entries in
    let given = option_map (λ k. k.now) c.args.after in
    let kept = next_same (kept_at es) (found (content (entries_of dims (shelf b.shape.rows es) b.keys.items b.rows.items)))
    (λ q. ap is_some (found_in_book dims es b.keys.items b.rows.items c.self.invariant q) ∙ on_shelf b.shape.rows es q) given c.next_in.result c.next_in.ensures in
    subst (λ (s : BookState). IsNext (found (content s.entries)) given c.next_in.result) c.self.view_is kept
