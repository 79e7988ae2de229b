use Rattle.lg_model.specs.Ranges.{IsAskRange}
use Rattle.lg_model.proofs.EachLemmas.{each_more, each_done}
use Rattle.lg_model.proofs.ranges.ask_ranges.Goals as goal

pub loop-ask-preserved : goal.loop-ask-preserved
loop-ask-preserved c = each_more IsAskRange c.args.asks.now c.loop-ask.ask-index _ c.loop-ask-test.true c.loop-ask.invariant c.ask_range.ensures

pub returns : goal.returns
returns c = each_done IsAskRange c.args.asks.now c.loop-ask.ask-index c.loop-ask-test.false c.loop-ask.invariant
