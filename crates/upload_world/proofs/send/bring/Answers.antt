use Rattle.std.proofs.Common.{[], ◌∷◌}
use Rattle.upload_world.proofs.Dues.{once_more}
use Rattle.upload_world.proofs.send.bring.Goals as goal

pub returns-in_ok-deliver-in-Twice-clause-due : goal.returns-in_ok-deliver-in-Twice-clause-due
returns-in_ok-deliver-in-Twice-clause-due c =
    once_more c.deliver-in-Twice-2.result (c.args.sent.now ∷ []) c.args.due.now c.deliver-in-Twice.new.due c.deliver-in-Twice-2.new.due
    c.in_ok-deliver-in-Twice.ensures.due c.deliver-in-Twice-2.ensures.due
