use Rattle.std.specs.Prelude.{◌≡◌, drop}
use Rattle.column_book.specs.Applying.{misfit, first_fault}
use Rattle.column_book.proofs.checking.first_misfit.Given as goal

abbrev pub invariant-loop-column : goal.invariant-loop-column
invariant-loop-column l = first_fault (misfit l.dims) l.columns ≡ first_fault (misfit l.dims) (drop l.column-index l.columns)
