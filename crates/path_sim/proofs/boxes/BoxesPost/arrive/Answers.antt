use Rattle.std.proofs.lemmas.Result.{IfOk-weaker}
use Rattle.path_sim.proofs.Delivering.{delivered}
use Rattle.path_sim.proofs.boxes.BoxesPost.arrive.Goals as goal

pub returns-clause-arrived : goal.returns-clause-arrived
returns-clause-arrived c =
    IfOk-weaker c.push.result _ _ (λ x pushed column ds of all.
    delivered ds c.args.self.now.inboxes.items c.args.host_at column c.index_mut-inbox.result.now c.push.new.self c.args.cargo c.requires.inside
    c.index_mut-inbox.ensures.value pushed of all) c.push.ensures
