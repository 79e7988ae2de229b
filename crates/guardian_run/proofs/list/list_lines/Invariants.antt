use Rattle.std.specs.Prelude.{◌≡◌, take}
use Rattle.std.specs.List.{flat_map}
use Rattle.lg_model.specs.Columns.{dims_of}
use Rattle.column_book.specs.Entries.{content}
use Rattle.guardian_run.specs.Outputs.{pair_line}
use Rattle.guardian_run.proofs.Listing.{key_before}
use Rattle.guardian_run.proofs.list.list_lines.Given as goal

abbrev pub invariant-loop : goal.invariant-loop
invariant-loop l = record {
  text : l.text.items ≡ flat_map (pair_line (dims_of l.book.shape)) (take l.counter (content l.book.entries));
  last : l.last ≡ key_before (content l.book.entries) l.counter;
}
