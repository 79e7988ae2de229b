use Rattle.std.proofs.Common.{◌≡◌, ◌≤◌, Bool, length, take, map}
use Rattle.std.specs.Prelude.{filter}
use Rattle.lg_model.specs.Columns.{Column}
use Rattle.column_book.specs.Applying.{mask_of}
use Rattle.book_file.proofs.Masks.{Left}
use Rattle.book_file.proofs.writing.count_of.Given as goal

abbrev pub invariant-loop : goal.invariant-loop
invariant-loop l = record {
  few : l.count ≤ l.index;
  left : Left l.mask l.columns l.index l.left;
  count : (p : Column → Bool) → l.mask ≡ mask_of (map p l.columns) → l.count ≡ length (filter p (take l.index l.columns));
}
