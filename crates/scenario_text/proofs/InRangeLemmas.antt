-- The positions in a scenario are in range.
use Rattle.std.proofs.Common.{ℕ, List, length, get_or}
use Rattle.lg_model.specs.declared.scenario.Flow.{Flow}
use Rattle.lg_model.specs.declared.scenario.Step.{Step}
use Rattle.lg_model.specs.declared.scenario.Step.TheVariants as steps
use Rattle.lg_model.specs.Keeping.{IsStep}
use Rattle.lg_model.specs.Scenario.{Scenario}
use Rattle.scenario_parts.specs.Parts.{IsStepInRange, AreInRange}
use Rattle.scenario_parts.specs.Whole.{IsWhole}

step_in_range : (switches : ℕ) (flows : List Flow) (t : Step) → IsStep switches flows t → IsStepInRange (length flows) switches t
step_in_range switches flows (steps.Packet at size delays burst x) ok = ok.flow
step_in_range switches flows (steps.End at) ok = ok
step_in_range switches flows steps.EndAll ok = tt
step_in_range switches flows steps.Release ok = tt

pub whole_in_range : (w : Scenario) → IsWhole w → AreInRange w
whole_in_range w h = record {
  flows = λ i d lt. let f = h.scenario.flows.each i d lt in (f.host, f.path);
  steps = λ i d lt. step_in_range (length w.switches) w.flows (get_or w.steps i d) (h.scenario.steps.each i d lt);
  asks = λ i d lt. let q = h.scenario.asks.each i d lt in q.flow;
}
