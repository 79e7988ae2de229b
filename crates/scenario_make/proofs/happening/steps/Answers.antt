use Rattle.scenario_make.specs.Generator.{generated_rounds, last_burst}
use Rattle.scenario_make.proofs.Lists.{one_more}
use Rattle.scenario_make.proofs.happening.steps.Goals as goal

pub loop-at-preserved : goal.loop-at-preserved
loop-at-preserved c =
    one_more last_burst c.loop-at.at (generated_rounds c.args.rounds) c.loop-at.steps.items c.push.new.self.items c.in_ok-last.field-0
    c.loop-at.invariant c.in_ok-last.ensures c.in_ok-push.ensures.items
