use Rattle.std.specs.Vec.{vec_capacity}
use Rattle.column_book.proofs.Cuts.{empty_kept}
use Rattle.column_book.proofs.book.Book.new.Goals as goal

pub invariant_of-result : goal.invariant_of-result
invariant_of-result c =
    empty_kept c.args.shape.now.width c.args.room c.new.result.map.entries c.new-2.result.items c.new-3.result.items c.in_ok-with_capacity.field-0.items (vec_capacity c.new-2.result) (vec_capacity c.new-3.result)
    c.width_fits.ensures c.requires.some c.requires.few c.new.ensures c.new-2.ensures.items c.new-3.ensures.items c.in_ok-with_capacity.ensures.items
