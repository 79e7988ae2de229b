use Rattle.lg_model.specs.Ranges.{IsFlowRange}
use Rattle.lg_model.proofs.EachLemmas.{each_more_item, each_done}
use Rattle.lg_model.proofs.ranges.flow_ranges.Goals as goal

pub loop-flow-preserved : goal.loop-flow-preserved
loop-flow-preserved c = each_more_item IsFlowRange c.args.flows.now c.loop-flow.flow-index c.flow-item.result c.loop-flow-test.true c.flow-item.is c.loop-flow.invariant c.flow_range.ensures

pub returns : goal.returns
returns c = each_done IsFlowRange c.args.flows.now c.loop-flow.flow-index c.loop-flow-test.false c.loop-flow.invariant
