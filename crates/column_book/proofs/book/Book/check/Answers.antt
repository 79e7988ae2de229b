use Rattle.std.specs.Prelude.{◌≡◌}
use Rattle.std.proofs.Common.{sym, ap, ◌∙◌}
use Rattle.std.proofs.lemmas.List.Elements.{All-from_recursion}
use Rattle.lg_model.specs.Columns.{Column, dims_of}
use Rattle.column_book.proofs.Faults.{all_fit}
use Rattle.column_book.proofs.book.Book.check.Goals as goal

pub compare-found-requires-clause-sized : goal.compare-found-requires-clause-sized
compare-found-requires-clause-sized c =
    let size = c.dims.ensures.value ∙ ap dims_of c.shape.ensures in
    let cs = c.columns-columns.result.now in
    let all = all_fit c.dims.result cs (sym c.first_misfit.ensures ∙ c.in_default.is) in
    λ k d low. All-from_recursion (λ (x : Column). x.dims ≡ c.dims.result) cs all k d low ∙ size

pub conflict_in-requires-clause-sized : goal.conflict_in-requires-clause-sized
conflict_in-requires-clause-sized c =
    let size = c.dims.ensures.value ∙ ap dims_of c.shape.ensures in
    let cs = c.columns-columns.result.now in
    let all = all_fit c.dims.result cs (sym c.first_misfit.ensures ∙ c.in_default.is) in
    λ k d low. All-from_recursion (λ (x : Column). x.dims ≡ c.dims.result) cs all k d low ∙ size
