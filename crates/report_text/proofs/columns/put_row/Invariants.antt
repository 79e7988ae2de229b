use Rattle.std.specs.Prelude.{◌≡◌, ◌++◌}
use Rattle.report_text.specs.Columns.{row_text}
use Rattle.report_text.proofs.columns.put_row.Given as goal

abbrev pub invariant-loop-index : goal.invariant-loop-index
invariant-loop-index l = l.out.items ≡ l.fn.out.items ++ row_text l.sketch l.row l.index
