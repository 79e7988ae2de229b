use Rattle.std.proofs.Common.{◌∙◌}
use Rattle.upload_world.proofs.Dues.{one_more, dues_pushed}
use Rattle.upload_world.proofs.deliver.deliver.Goals as goal

pub returns-clause-due : goal.returns-clause-due
returns-clause-due c =
    let a = c.args in
    one_more a.due.now (record { uploads = c.push.new.self; order = c.push-2.new.self }) a.sent.now a.heard c.in_ok-upload.upload
    c.in_ok-push.ensures.items (dues_pushed a.due.now (record { uploads = c.push.new.self; order = c.push-2.new.self })
    (record { seq = a.sent.now.seq; heard = a.heard }) c.in_ok-push-2.ensures.items)
    (λ x full is. c.in_ok-upload.ensures x full (c.deref.ensures.value ∙ is))
