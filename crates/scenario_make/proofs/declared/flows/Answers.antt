use Rattle.std.specs.Prelude.{[]}
use Rattle.scenario_make.specs.Generator.{generated_flow}
use Rattle.scenario_make.proofs.Lists.{one_more}
use Rattle.scenario_make.proofs.declared.flows.Goals as goal

pub loop-at-preserved : goal.loop-at-preserved
loop-at-preserved c =
    one_more generated_flow c.loop-at.at [] c.loop-at.flows.items c.push.new.self.items c.in_ok-flow.field-0 c.loop-at.invariant c.in_ok-flow.ensures
    c.in_ok-push.ensures.items
