use Rattle.std.specs.Prelude.{◌≡◌, drop}
use Rattle.lg_model.specs.Columns.{dims_of}
use Rattle.column_book.specs.Entries.{content}
use Rattle.column_book.specs.Applying.{conflict, first_fault}
use Rattle.column_book.proofs.book.Book.first_conflict.Given as goal

abbrev pub invariant-loop-column : goal.invariant-loop-column
invariant-loop-column l = let f = conflict (dims_of l.self.shape) (content l.self.entries) in first_fault f l.columns ≡ first_fault f (drop l.column-index l.columns)
