-- The scenario's own pickers give the picked list.
use Rattle.std.specs.Prelude.{◌≡◌, ℕ, ◌<◌, ◌≤◌, ◌^◌, List, [], length, Some, Result, Ok, Err, IfOk, slice_get, slice_index, slice_index_or, All}
use Rattle.std.proofs.Common.{sym, ap, ◌∙◌, subst, arith, inl, inr}
use Rattle.std.proofs.lemmas.Bool.{cases_lt}
use Rattle.std.proofs.lemmas.List.{length-map, get_or-map}
use Rattle.std.proofs.lemmas.List.Elements.{All-nil, All-replicate, All-get_or}
use Rattle.std.proofs.lemmas.Option.{slice_get_within, get_or_from_slice_get}
use Rattle.std.proofs.Math.ListN.{get_or-eq_default}
use Rattle.lg_model.specs.declared.scenario.Flow.{Flow}
use Rattle.lg_model.specs.declared.scenario.Step.{Step}
use Rattle.lg_model.specs.declared.scenario.Step.TheVariants as steps
use Rattle.lg_model.specs.Keeping.{IsScenario, IsFlow}
use Rattle.lg_model.specs.Scenario.{Scenario, flow_at, no_flow}
use Rattle.lg_model.specs.Trace.{Packet, packet_of, packets_of, packets, meetings}
use Rattle.lg_model.specs.Carrying.{picked}
use Rattle.lg_model.specs.Offering.{Offering, IsPick, offering}
use Rattle.lg_model.specs.Runs.{Runs}
use Rattle.lg_model.proofs.Tracing.{all_made, few_meetings, length_packets}
use Rattle.lg_model.proofs.Choosing.{picked_by}
use Rattle.column_pick.specs.declared.any_picker.AnyPicker.{AnyPicker}
use Rattle.column_pick.specs.Picks.{AnyPicks, fresh, after_offers}
use Rattle.column_pick.proofs.Following.{fresh_is_unoffered, any_follows}
use Rattle.path_sim.specs.Own.{AreFresh}

short_flow : (w : Scenario) (at : ℕ) → IsScenario w → length (flow_at w.flows at).path ≤ 16
short_flow w at is =
    let P : Flow → Type 0 = λ f. length f.path ≤ 16 in
    elim (cases_lt at (length w.flows)) [
      | inl inside ↦ (All-get_or (IsFlow (length w.hosts) (length w.switches)) w.flows at no_flow inside is.flows.each).few_hops
      | inr past ↦ subst P (sym (get_or-eq_default w.flows no_flow past)) (let e : length no_flow.path ≤ 16 = omega arith in e)
    ]

short_packets : (w : Scenario) → IsScenario w → All (λ (p : Packet). length p.flow.path ≤ 16) (packets w)
short_packets w is = all_made (λ (p : Packet). length p.flow.path ≤ 16) (packets_of w.flows) 0 w.steps (λ k step low. each k step)
  where
    each : (k : ℕ) (step : Step) → All (λ (p : Packet). length p.flow.path ≤ 16) (packets_of w.flows (k, step))
    each k (steps.Packet at size delays burst fate) = All-replicate (λ (p : Packet). length p.flow.path ≤ 16) burst
        (packet_of w.flows k at size delays fate) (short_flow w at is)
    each k (steps.End s) = All-nil (λ (p : Packet). length p.flow.path ≤ 16)
    each k steps.EndAll = All-nil (λ (p : Packet). length p.flow.path ≤ 16)
    each k steps.Release = All-nil (λ (p : Packet). length p.flow.path ≤ 16)

pub meetings_fit : (w : Scenario) → IsScenario w → length (meetings w) < 2 ^ 64
meetings_fit w is = omega (arith, few_meetings 0 (packets w) (short_packets w is), length_packets w, is.steps.few_packets)

unoffered : (w : Scenario) (ps : List AnyPicker) → AreFresh w ps → (s : ℕ) (p : AnyPicker) → slice_get ps s ≡ Some p
    → p ≡ after_offers w.pick (slice_index w.switches s) 0
unoffered w ps fresh_are s p is =
    let inside : s < length ps = slice_get_within ps s p is in
    let low : s < length w.switches = omega (arith, ap length fresh_are, length-map w.switches (fresh w.pick)) in
    let at : slice_index_or ps s p ≡ p = get_or_from_slice_get ps s p p is in
    sym at ∙ ap (λ (xs : List AnyPicker). slice_index_or xs s p) fresh_are ∙ get_or-map (fresh w.pick) w.switches s 0 p low
    ∙ fresh_is_unoffered w.pick (slice_index w.switches s)

pub own_picked : (w : Scenario) (ps : List AnyPicker) (b : Offering AnyPicker) → IsScenario w → AreFresh w ps
    → Runs (IsPick AnyPicks w) (meetings w) (offering ps []) b → b.carried ≡ picked w
own_picked w ps b is fresh_are run = picked_by AnyPicks w (λ s offers. after_offers w.pick (slice_index w.switches s) offers) ps b (any_follows w)
    (meetings_fit w is) (unoffered w ps fresh_are) run

-- what holds of the carried list of an outcome holds of the list that it is
pub with_picked : {X E Y : Type 0} (r : Result X E) (f : X → Y) (y : Y) (P : X → Y → Type 0) → IfOk r (λ x. f x ≡ y) → IfOk r (λ x. P x (f x))
    → IfOk r (λ x. P x y)
with_picked (Ok x) f y P same h = subst (P x) same h
with_picked (Err e) f y P same h = tt
