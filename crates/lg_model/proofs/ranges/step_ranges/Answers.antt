use Rattle.lg_model.specs.Ranges.{IsStepRange}
use Rattle.lg_model.proofs.EachLemmas.{each_more_item, each_done}
use Rattle.lg_model.proofs.ranges.step_ranges.Goals as goal

pub loop-step-preserved : goal.loop-step-preserved
loop-step-preserved c = each_more_item IsStepRange c.args.steps.now c.loop-step.step-index c.step-item.result c.loop-step-test.true c.step-item.is c.loop-step.invariant c.step_range.ensures

pub returns : goal.returns
returns c = each_done IsStepRange c.args.steps.now c.loop-step.step-index c.loop-step-test.false c.loop-step.invariant
