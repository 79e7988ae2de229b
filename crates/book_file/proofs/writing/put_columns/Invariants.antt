use Rattle.std.proofs.Common.{◌≡◌, ◌++◌, Bool, take, map}
use Rattle.lg_model.specs.Columns.{Column}
use Rattle.column_book.specs.Applying.{mask_of}
use Rattle.book_file.proofs.Masks.{Left, picked}
use Rattle.book_file.proofs.writing.put_columns.Given as goal

abbrev pub invariant-loop-column : goal.invariant-loop-column
invariant-loop-column l = record {
  left : Left l.mask l.columns l.column-index l.left;
  bytes : (p : Column → Bool) → l.mask ≡ mask_of (map p l.columns)
      → l.out.items ≡ l.fn.out.items ++ picked p (take l.column-index l.columns);
}
