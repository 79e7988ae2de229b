use Rattle.std.proofs.Common.{◌+◌, ◌∙◌, sym, ap, subst, Ok}
use Rattle.lg_model.specs.declared.scenario.HostLine.{HostLine}
use Rattle.host_workers.specs.declared.sender.Sender.{Sender}
use Rattle.guardian_run.specs.Sending.{AreSenders}
use Rattle.guardian_run.proofs.Sent.{host_read, senders_more}
use Rattle.guardian_run.proofs.storing.senders.Goals as goal

pub loop-at-preserved : goal.loop-at-preserved
loop-at-preserved c =
    let w = c.args.scenario.now in
    let at = c.loop-at.at in
    let host = c.index-hosts-at.result in
    let low = c.loop-at-test.true in
    let is = host_read w at c.hosts-hosts.result.now host c.hosts-hosts.ensures.value low c.index-hosts-at.is in
    let s : Sender = record { uploader = c.in_ok-uploader.uploader; letters = c.items-letters.result; result = Ok tt } in
    let letters = c.items-letters.ensures ∙ ap (λ (x : HostLine). x.letters) (sym c.index-hosts-at.is ∙ sym is) in
    subst (AreSenders w (at + 1)) (sym c.in_ok-push.ensures.items)
    (senders_more w at c.loop-at.senders.items s c.loop-at.invariant (λ j. (c.in_ok-uploader.ensures j, letters j)))
