use Rattle.std.proofs.Common.{◌∙◌, ap}
use Rattle.book_file.proofs.Masks.{left_next, put_more, put_none}
use Rattle.book_file.proofs.writing.put_columns.Goals.{then-left-eq1+in_ok-put_column, else-left-eq1}
use Rattle.book_file.proofs.writing.put_columns.Goals as goal

pub loop-column-preserved : goal.loop-column-preserved
loop-column-preserved c =
    let cs = c.args.columns.now in
    let k = c.loop-column.column-index in
    let left = c.loop-column.left in
    let i = c.loop-column.invariant in
    let lt = c.loop-column-test.true in
    let start = c.args.out.now.items in
    record {
      left = left_next c.args.mask cs k left lt i.left;
      bytes = λ p is. elim c.if-left-eq1.branch [
        | then-left-eq1+in_ok-put_column w ↦
            put_more c.args.mask cs k left lt i.left p is c.column-item.result start c.loop-column.out.items c.if-left-eq1.out.items
            c.column-item.is w.if-left-eq1.true (i.bytes p is)
            (ap (λ v. v.items) w.out-is ∙ w.in_ok-put_column.ensures)
        | else-left-eq1 w ↦
            ap (λ v. v.items) w.out-is ∙ put_none c.args.mask cs k left lt i.left p is start c.loop-column.out.items w.if-left-eq1.false
            (i.bytes p is)
      ];
    }
