use Rattle.std.specs.Prelude.{length}
use Rattle.std.proofs.Common.{arith, ap, subst}
use Rattle.lg_model.specs.Columns.{dims_of}
use Rattle.column_book.specs.Entries.{BookState, columns_of, content, IsBook}
use Rattle.column_book.specs.Kept.{shelf}
use Rattle.column_book.proofs.Cuts.{count_kept}
use Rattle.column_book.proofs.Sizes.{size_content}
use Rattle.column_book.proofs.Positions.{is_book}
use Rattle.column_book.proofs.book.Book.count.Goals as goal

pub returns-clause-value : goal.returns-clause-value
returns-clause-value c =
    let b = c.self.inside in
    let count = count_kept (dims_of b.shape) (shelf b.shape.rows b.blocks.map.entries) b.keys.items b.rows.items c.self.invariant.cut in
    let view = ap (λ (s : BookState). length (columns_of s.entries)) c.self.view_is in
    omega (arith, count, view, c.len.ensures)

pub returns-clause-content : goal.returns-clause-content
returns-clause-content c =
    let b = c.self.inside in
    let size = size_content (dims_of b.shape) b.blocks.map.entries b.keys.items b.rows.items c.self.invariant in
    let view = ap (λ (s : BookState). length (content s.entries)) c.self.view_is in
    omega (arith, size, view, c.len.ensures)

pub returns-clause-book : goal.returns-clause-book
returns-clause-book c = let b = c.self.inside in subst IsBook c.self.view_is (is_book b.shape b.room b.blocks.map.entries b.keys.items b.rows.items b.ready.items c.self.invariant)
