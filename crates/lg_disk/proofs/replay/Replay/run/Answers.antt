use Rattle.std.proofs.Common.{◌∙◌, ap, sym}
use Rattle.lg_disk.specs.Model.{State, start, step}
use Rattle.lg_disk.proofs.Courses.{run_more}
use Rattle.lg_disk.proofs.replay.Replay.run.Goals as goal

pub loop-call-preserved : goal.loop-call-preserved
loop-call-preserved c =
    c.in_ok-step.ensures
    ∙ ap (λ (s : State). step s c.call-item.result) c.loop-call.invariant
    ∙ sym (run_more (start c.args.first.now) c.args.calls.now c.loop-call.call-index c.call-item.result c.loop-call-test.true c.call-item.is)
