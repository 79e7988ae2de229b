use Rattle.upload_world.proofs.Dues.{both_more}
use Rattle.upload_world.proofs.send.send.Goals as goal

pub returns-clause-due : goal.returns-clause-due
returns-clause-due c =
    both_more c.keep.result c.args.sent c.args.held.now.items c.args.due.now c.bring.new.due c.let_out.new.due c.in_ok-bring.ensures.due
    c.in_ok-let_out.ensures.due
