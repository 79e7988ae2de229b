use Rattle.lg_model.specs.Keeping.{IsFlow}
use Rattle.lg_model.proofs.EachLemmas.{each_more_item, all_found}
use Rattle.scenario_parts.proofs.fits.flows_fit.Goals as goal

pub loop-flow-preserved : goal.loop-flow-preserved
loop-flow-preserved c = each_more_item
    (IsFlow c.args.hosts c.args.switches) c.args.flows.now c.loop-flow.flow-index c.flow-item.result c.loop-flow-test.true c.flow-item.is
    c.loop-flow.invariant (c.is_flow.ensures.0 c.if-not-is_flow.false)

pub returns : goal.returns
returns c = all_found (IsFlow c.args.hosts c.args.switches) c.args.flows.now c.loop-flow.flow-index c.loop-flow-test.false c.loop-flow.invariant
