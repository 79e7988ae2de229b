use Rattle.std.specs.Prelude.{◌≡◌, Some, ◌<◌, option_copied}
use Rattle.std.specs.Option.{option_map}
use Rattle.std.proofs.Common.{sym, ap, ◌∙◌, subst}
use Rattle.lg_model.specs.declared.column.Dims.{Dims}
use Rattle.lg_model.specs.Answer.{found}
use Rattle.sketchlet_wire.specs.Spelling.{IsAdmitted, shown, cells_in}
use Rattle.lg_model.specs.Columns.{Cells, dims_of}
use Rattle.column_book.specs.Entries.{BookState, content}
use Rattle.column_book.proofs.Finding.{found_in_book, index_inside, admitted, surely_some, told_cells}
use Rattle.column_book.proofs.book.Book.find.Goals as goal

pub returns-in_err-buckets : goal.returns-in_err-buckets
returns-in_err-buckets c =
    let b = c.self.inside in
    let k = c.args.key.now in
    let view = ap (λ (s : BookState). found (content s.entries) k) c.self.view_is in
    let is = sym view ∙ found_in_book (dims_of b.shape) b.blocks.map.entries b.keys.items b.rows.items c.self.invariant k in
    let value : c.from_residual.result ≡ option_map (λ (bs : Cells). record { key = k; dims = dims_of c.args.self.now.shape; cells = bs }) (found (content c.args.self.now.entries) k) =
    rw (is, ← c.get.ensures, c.in_err-buckets.was) c.from_residual.ensures in
    let told = told_cells k (dims_of c.args.self.now.shape) (found (content c.args.self.now.entries) k) c.from_residual.result value in
    record { value = told.value; cells = told.cells; named = told.named }

pub returns : goal.returns
returns c =
    let b = c.self.inside in
    let k = c.args.key.now in
    let bs = c.in_ok-buckets.buckets.now in
    let kept = sym c.get.ensures ∙ ap option_copied c.in_ok-buckets.was in
    let view = ap (λ (s : BookState). found (content s.entries) k) c.self.view_is in
    let is = sym view ∙ found_in_book (dims_of b.shape) b.blocks.map.entries b.keys.items b.rows.items c.self.invariant k in
    let size : c.dims.result ≡ dims_of b.shape = c.dims.ensures.value in
    let admitted_here : IsAdmitted k c.dims.result = admitted k c.dims.result c.dims.ensures.range
    (subst (λ (d : Dims). k.index < d.width) (sym size) (index_inside b.blocks.map.entries b.keys.items b.rows.items c.self.invariant k bs kept)) in
    let made = surely_some c.new.result (IsAdmitted k c.dims.result) (shown k c.dims.result bs) c.new.ensures admitted_here in
    let value : c.new.result ≡ option_map (λ (bs : Cells). record { key = k; dims = dims_of c.args.self.now.shape; cells = bs }) (found (content c.args.self.now.entries) k) =
    rw (is, kept) (made ∙ ap (λ (d : Dims). Some (shown k d bs)) size
    ∙ ap (λ (s : BookState). Some (record { key = k; dims = dims_of s.shape; cells = cells_in b.shape.rows bs })) c.self.view_is) in
    let told = told_cells k (dims_of c.args.self.now.shape) (found (content c.args.self.now.entries) k) c.new.result value in
    record { value = told.value; cells = told.cells; named = told.named }
