use Rattle.lg_model.specs.Keeping.{IsAsk}
use Rattle.lg_model.proofs.EachLemmas.{each_more, all_found}
use Rattle.scenario_parts.proofs.fits.asks_fit.Goals as goal

pub loop-ask-preserved : goal.loop-ask-preserved
loop-ask-preserved c = each_more
    (IsAsk c.args.switches.now c.args.flows.now) c.args.asks.now c.loop-ask.ask-index _ c.loop-ask-test.true c.loop-ask.invariant
    (c.is_ask.ensures.0 c.if-not-is_ask.false)

pub returns : goal.returns
returns c = all_found (IsAsk c.args.switches.now c.args.flows.now) c.args.asks.now c.loop-ask.ask-index c.loop-ask-test.false c.loop-ask.invariant
