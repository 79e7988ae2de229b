use Rattle.std.proofs.Common.{sym, ◌∙◌}
use Rattle.lg_model.specs.declared.scenario.Flow.{Flow}
use Rattle.scenario_parts.proofs.ApartLemmas.{things_more, things_not, things_done}
use Rattle.scenario_parts.proofs.apart.are_flows_apart.Goals as goal

pub returns-then-has_flow : goal.returns-then-has_flow
returns-then-has_flow c =
    things_not (λ (x : Flow). x.name) c.args.flows.now c.loop-i.i c.index-flows-i.result c.loop-i-test.true (sym c.has_flow.ensures ∙ c.if-has_flow.true)

pub loop-i-preserved : goal.loop-i-preserved
loop-i-preserved c = things_more (λ (x : Flow). x.name) c.args.flows.now c.loop-i.i c.index-flows-i.result c.loop-i-test.true c.loop-i.invariant
    (sym c.has_flow.ensures ∙ c.if-has_flow.false)

pub returns : goal.returns
returns c = things_done (λ (x : Flow). x.name) c.args.flows.now c.loop-i.i c.loop-i-test.false c.loop-i.invariant
