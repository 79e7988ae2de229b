use Rattle.std.specs.Prelude.{◌≡◌, Bool, filter, length, map}
use Rattle.std.proofs.Common.{sym, ap, ◌∙◌}
use Rattle.std.proofs.lemmas.List.Elements.{recursion_from_All}
use Rattle.lg_model.specs.declared.column.Key.{Key}
use Rattle.lg_model.specs.Answer.{found}
use Rattle.lg_model.specs.Columns.{Column, dims_of}
use Rattle.column_book.specs.Entries.{BookState, content}
use Rattle.column_book.specs.Applying.{is_new, mask_of}
use Rattle.column_book.specs.Kept.{is_free, shelf, IsAsKept}
use Rattle.column_book.proofs.Alike.{no_conflict}
use Rattle.column_book.proofs.Finding.{found_in_book}
use Rattle.column_book.proofs.Stored.{free_is_new}
use Rattle.column_book.proofs.book.Book.compare.Goals as goal

pub returns-clause-mask : goal.returns-clause-mask
returns-clause-mask c =
    let b = c.self.inside in
    let one : is_free b.blocks.map.entries ≡ is_new (content c.args.self.now.entries) =
    λ i x. (free_is_new (dims_of b.shape) b.blocks.map.entries b.keys.items b.rows.items c.self.invariant x ∙ ap (λ (s : BookState). is_new (content s.entries) x) c.self.view_is) i in
    c.compare_all.ensures.mask ∙ ap (λ (p : Column → Bool). mask_of (map p c.args.columns.now)) one

pub returns-clause-count : goal.returns-clause-count
returns-clause-count c =
    let b = c.self.inside in
    let one : is_free b.blocks.map.entries ≡ is_new (content c.args.self.now.entries) =
    λ i x. (free_is_new (dims_of b.shape) b.blocks.map.entries b.keys.items b.rows.items c.self.invariant x ∙ ap (λ (s : BookState). is_new (content s.entries) x) c.self.view_is) i in
    c.compare_all.ensures.count ∙ ap (λ (p : Column → Bool). length (filter p c.args.columns.now)) one

pub returns-clause-same : goal.returns-clause-same
returns-clause-same c = λ e.
    let b = c.self.inside in
    let dims = dims_of c.args.self.now.shape in
    let es = b.blocks.map.entries in
    let cs = c.args.columns.now in
    let is : (k : Key) → found (content c.args.self.now.entries) k ≡ shelf dims.rows es k =
    λ k. sym (ap (λ (s : BookState). found (content s.entries) k) c.self.view_is) ∙ found_in_book (dims_of b.shape) es b.keys.items b.rows.items c.self.invariant k
    ∙ ap (λ (s : BookState). shelf s.shape.rows es k) c.self.view_is in
    no_conflict dims es (content c.args.self.now.entries) is cs (recursion_from_All (λ (x : Column). x.dims ≡ dims) cs c.requires.sized) c.requires.each
    (recursion_from_All (IsAsKept es) cs (c.compare_all.ensures.same e))
