use Rattle.std.proofs.Common.{◌∷◌, []}
use Rattle.report_text.specs.Faults.{conflict_line}
use Rattle.report_text.proofs.Pieces.{in_five}
use Rattle.report_text.proofs.faults.put_conflict_line.Goals as goal

pub returns : goal.returns
unfolding conflict_line
returns c = rw c.from.ensures at (in_five c.args.out.now.items c.put_place.new.out.items c.put_field.new.out.items c.put_listed.new.out.items
    c.put_listed-2.new.out.items c.put_text.new.out.items _ _ _ _ (10 ∷ [])
    c.in_ok-put_place.ensures c.in_ok-put_field.ensures c.in_ok-put_listed.ensures c.in_ok-put_listed-2.ensures c.in_ok-put_text.ensures)
