use Rattle.std.specs.Prelude.{length}
use Rattle.std.proofs.Common.{arith}
use Rattle.column_book.proofs.Cuts.{few_rows}
use Rattle.column_book.proofs.book.Book.records.Goals as goal

pub overflow_cast-result : goal.overflow_cast-result
overflow_cast-result c =
    let b = c.self.inside in
    let few = few_rows 0 (length b.keys.items) b.rows.items c.self.invariant.cut in
    omega (arith, few)
