use Rattle.scenario_make.specs.Generator.{generated_burst}
use Rattle.scenario_make.proofs.Lists.{one_more}
use Rattle.scenario_make.proofs.happening.put_bursts.Goals as goal

pub loop-at-preserved : goal.loop-at-preserved
loop-at-preserved c =
    one_more (generated_burst c.args.round) c.loop-at.at c.args.steps.now.items c.loop-at.steps.items c.push.new.self.items c.in_ok-burst.field-0
    c.loop-at.invariant c.in_ok-burst.ensures c.in_ok-push.ensures.items
