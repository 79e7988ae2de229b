use Rattle.std.proofs.Common.{length}
use Rattle.lg_model.specs.Keeping.{IsStep}
use Rattle.lg_model.proofs.EachLemmas.{each_more_item, all_found}
use Rattle.scenario_parts.proofs.fits.steps_fit.Goals as goal

pub loop-step-preserved : goal.loop-step-preserved
loop-step-preserved c = each_more_item
    (IsStep (length c.args.switches.now) c.args.flows.now) c.args.steps.now c.loop-step.step-index c.step-item.result c.loop-step-test.true c.step-item.is
    c.loop-step.invariant (c.is_step.ensures.0 c.if-not-is_step.false)

pub returns : goal.returns
returns c = all_found (IsStep
    (length c.args.switches.now) c.args.flows.now) c.args.steps.now c.loop-step.step-index c.loop-step-test.false c.loop-step.invariant
