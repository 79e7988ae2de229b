use Rattle.std.proofs.Common.{subst}
use Rattle.host_workers.specs.Working.{HaveWorked}
use Rattle.guardian_run.proofs.Sent.{sent}
use Rattle.guardian_run.proofs.storing.store_all.Goals as goal

pub returns-clause-sent : goal.returns-clause-sent
returns-clause-sent g c =
    let j = c.args.journal in
    let r = c.run_workers.result in
    sent c.args.scenario.now c.workers_leave_legal_lists.ensures j.shape j.room j.entries r.0.entries r.0.fault c.in-Ok.senders.items r.1.items c.requires.shape
    c.requires.room c.requires.once c.in-Ok.ensures.senders
    (subst (λ x. HaveWorked x.shape x.room x.entries c.in-Ok.senders.items r.1.items r.0.entries r.0.fault) c.in-Ok-share.ensures.shared
    c.run_workers.ensures.worked)
