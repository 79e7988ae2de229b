use Rattle.std.specs.Prelude.{[]}
use Rattle.scenario_make.specs.Generator.{generated_ask}
use Rattle.scenario_make.proofs.Lists.{one_more}
use Rattle.scenario_make.proofs.happening.asks.Goals as goal

pub loop-at-preserved : goal.loop-at-preserved
loop-at-preserved c =
    one_more generated_ask c.loop-at.at [] c.loop-at.asks.items c.push.new.self.items c.ask.result c.loop-at.invariant c.ask.ensures
    c.in_ok-push.ensures.items
