use Rattle.std.proofs.Common.{◌≡◌, ◌++◌, length}
use Rattle.std.specs.List.{flat_map, AllByRecursion}
use Rattle.byte_fields.specs.Law.{IsBytes}
use Rattle.book_file.specs.File.{IsColumnOf, column_bytes}
use Rattle.book_file.proofs.reading.columns_of.Given as goal

abbrev pub invariant-loop : goal.invariant-loop
invariant-loop l = record {
  count : length l.columns.items ≡ l.counter;
  each : AllByRecursion (IsColumnOf l.dims) l.columns.items;
  parts : l.bytes ≡ flat_map column_bytes l.columns.items ++ l.left;
  fits : IsBytes l.left;
}
