use Rattle.std.proofs.Common.{sym, ◌∙◌}
use Rattle.lg_model.specs.Columns.{dims_of}
use Rattle.column_book.specs.Entries.{content}
use Rattle.column_book.proofs.Faults.{told}
use Rattle.column_book.proofs.book.Book.conflict.Goals as goal

pub returns-then-is_same : goal.returns-then-is_same
returns-then-is_same c =
    rw (told c.args.column.now (dims_of c.args.self.now.shape) (content c.args.self.now.entries) c.key.result c.in_ok-kept.kept c.is_same.result c.key.ensures.value (sym c.find.ensures.value ∙ c.in_ok-kept.was) c.requires c.is_same.ensures.same c.is_same.ensures.found, c.if-is_same.true)

pub returns-else-is_same : goal.returns-else-is_same
returns-else-is_same c =
    rw (told c.args.column.now (dims_of c.args.self.now.shape) (content c.args.self.now.entries) c.key.result c.in_ok-kept.kept c.is_same.result c.key.ensures.value (sym c.find.ensures.value ∙ c.in_ok-kept.was) c.requires c.is_same.ensures.same c.is_same.ensures.found, c.if-is_same.false, c.key-else-is_same.ensures.value)
