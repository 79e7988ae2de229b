-- Which columns come to the hosts: those that the carry list names.
use Rattle.std.specs.Prelude.{◌≡◌, ℕ, ◌<◌, ◌+◌, ◌==◌, List, [], ◌∷◌, All, Any, map, filter, length, take, Bool, true, false, cond, Option}
use Rattle.std.specs.Prelude.{Some, None, IfSome, slice_index_or, count_by, ◌≤◌}
use Rattle.std.specs.List.{flat_map, filter_map, enumerate_from, find, cons_option, range_with_len}
use Rattle.std.specs.Option.{option_map}
use Rattle.std.proofs.Common.{refl, sym, ap, ◌∙◌, subst, arith, take_all}
use Rattle.std.proofs.lemmas.List.Elements.{All-map, All-filter, All-append, All-nil, All-replicate, All-take, All-get_or, All-cons}
use Rattle.std.proofs.lemmas.List.Elements.{All-head, All-tail}
use Rattle.lg_model.proofs.Tracing.{ended_rises}
use Rattle.lg_model.specs.declared.scenario.Flow.{Flow}
use Rattle.lg_model.specs.declared.scenario.Step.{Step}
use Rattle.lg_model.specs.declared.scenario.Step.TheVariants as steps
use Rattle.lg_model.specs.Keeping.{IsFlow, IsStep, IsScenario}
use Rattle.lg_model.specs.Scenario.{Scenario, flow_at, no_flow, ended, is_end_of}
use Rattle.lg_model.specs.Trace.{Packet, Meeting, packets_of, packets, meetings, meetings_of, meeting_of, reach}
use Rattle.lg_model.specs.Carrying.{Carry, IsAllowed, IsCarriedAt}
use Rattle.lg_model.specs.Arriving.{column_of, cargo, brings, deliveries, arrivals, brought, brought_to_all, packet_at}
use Rattle.lg_model.specs.Columns.{Column, dims_of}

-- what each element gives
pub all_flat : {X Y : Type 0} (P : Y → Type 0) (f : X → List Y) (xs : List X) → ((x : X) → All P (f x)) → All P (flat_map f xs)
all_flat P f [] each = All-nil P
all_flat P f (x ∷ xs) each = All-append P (f x) (flat_map f xs) (each x) (all_flat P f xs each)

pub all_some : {X Y : Type 0} (P : Y → Type 0) (f : X → Option Y) (xs : List X) → ((x : X) → IfSome (f x) P) → All P (filter_map f xs)
all_some P f [] each = All-nil P
all_some P f (x ∷ xs) each = (elim (f x) as (λ o. IfSome o P → All P (cons_option o (filter_map f xs))) [
  | None ↦ λ h. all_some P f xs each
  | Some y ↦ λ h. All-cons P y (filter_map f xs) h (all_some P f xs each)
]) (each x)

-- what is found is one of them
pub find_all : {X : Type 0} (P : X → Type 0) (p : X → Bool) (xs : List X) → All P xs → IfSome (find p xs) P
find_all P p [] all = tt
find_all P p (x ∷ xs) all = elim (p x) as (λ b. IfSome (cond b (Some x) (find p xs)) P) [
  | true ↦ All-head P x xs all
  | false ↦ find_all P p xs (All-tail P x xs all)
]

if_mapped : {X Y : Type 0} (P : Y → Type 0) (f : X → Y) (o : Option X) → IfSome o (λ x. P (f x)) → IfSome (option_map f o) P
if_mapped P f None h = h
if_mapped P f (Some x) h = h

-- each column that comes to a host is of an entry of the carry list
pub brought_here : (P : Column → Type 0) (w : Scenario) (cs : List Carry) (h : ℕ) → All (λ (c : Carry). P (column_of w c)) cs → All P (brought w cs h)
brought_here P w cs h all = All-map P (λ (d : ℕ × Column). d.1) (filter here arrived)
    (All-filter here Given arrived (all_some Given (brings w cs) (arrivals w) one))
  where
    Given : ℕ × Column → Type 0
    Given d = P d.1

    here : ℕ × Column → Bool
    here d = d.0 == h

    arrived : List (ℕ × Column)
    arrived = deliveries w cs (arrivals w)

    entry : (n : ℕ) → IfSome (find (λ (c : Carry). c.packet == n) cs) (λ (c : Carry). P (column_of w c))
    entry n = find_all (λ (c : Carry). P (column_of w c)) (λ (c : Carry). c.packet == n) cs all

    one : (n : ℕ) → IfSome (brings w cs n) Given
    one n = if_mapped Given (λ c. ((packet_at w n).flow.host_at, c)) (cargo w cs n)
        (if_mapped P (column_of w) (find (λ (c : Carry). c.packet == n) cs) (entry n))

pub brought_made : (P : Column → Type 0) (w : Scenario) (cs : List Carry) → All (λ (c : Carry). P (column_of w c)) cs → All P (brought_to_all w cs)
brought_made P w cs all = all_flat P (brought w cs) (range_with_len 0 (length w.hosts)) (λ h. brought_here P w cs h all)

-- it is of a sketch of the scenario's shape
pub brought_dims : (w : Scenario) (cs : List Carry) (h : ℕ) → All (λ (c : Column). c.dims ≡ dims_of w.shape) (brought w cs h)
brought_dims w cs h = brought_here (λ (c : Column). c.dims ≡ dims_of w.shape) w cs h (λ k d inside. refl)

-- a packet of a scenario goes by switches that are there
abbrev pub IsGuided : ℕ → Packet → Type 0
IsGuided n p = All (λ s. s < n) p.flow.path

guided_step : (hosts n k : ℕ) (flows : List Flow) (step : Step) → All (IsFlow hosts n) flows → IsStep n flows step →
    All (IsGuided n) (packets_of flows (k, step))
guided_step hosts n k flows (steps.Packet at size delays burst fate) all is =
    All-replicate (IsGuided n) burst (record { step_at = k; flow = flow_at flows at; size = size; delays = delays; fate = fate })
    (All-get_or (IsFlow hosts n) flows at no_flow is.flow all).path
guided_step hosts n k flows (steps.End s) all is = All-nil (IsGuided n)
guided_step hosts n k flows steps.EndAll all is = All-nil (IsGuided n)
guided_step hosts n k flows steps.Release all is = All-nil (IsGuided n)

guided_steps : (hosts n k : ℕ) (flows : List Flow) (ss : List Step) → All (IsFlow hosts n) flows → All (IsStep n flows) ss →
    All (IsGuided n) (flat_map (packets_of flows) (enumerate_from k ss))
guided_steps hosts n k flows [] all each = All-nil (IsGuided n)
guided_steps hosts n k flows (s ∷ ss) all each =
    All-append (IsGuided n) (packets_of flows (k, s)) (flat_map (packets_of flows) (enumerate_from (k + 1) ss))
    (guided_step hosts n k flows s all (All-head (IsStep n flows) s ss each))
    (guided_steps hosts n (k + 1) flows ss all (All-tail (IsStep n flows) s ss each))

met_hops : (n number k : ℕ) (p : Packet) (path : List ℕ) → All (λ s. s < n) path →
    All (λ (m : Meeting). m.switch_at < n) (map (meeting_of number p) (enumerate_from k path))
met_hops n number k p [] all = All-nil (λ (m : Meeting). m.switch_at < n)
met_hops n number k p (s ∷ path) all =
    All-cons (λ (m : Meeting). m.switch_at < n) (meeting_of number p (k, s)) (map (meeting_of number p) (enumerate_from (k + 1) path))
    (All-head (λ s. s < n) s path all) (met_hops n number (k + 1) p path (All-tail (λ s. s < n) s path all))

met_packets : (n k : ℕ) (ps : List Packet) → All (IsGuided n) ps → All (λ (m : Meeting). m.switch_at < n) (flat_map meetings_of (enumerate_from k ps))
met_packets n k [] all = All-nil (λ (m : Meeting). m.switch_at < n)
met_packets n k (p ∷ ps) all =
    All-append (λ (m : Meeting). m.switch_at < n) (meetings_of (k, p)) (flat_map meetings_of (enumerate_from (k + 1) ps))
    (met_hops n k 0 p (take (reach p) p.flow.path) (All-take (λ s. s < n) (reach p) p.flow.path (All-head (IsGuided n) p ps all)))
    (met_packets n (k + 1) ps (All-tail (IsGuided n) p ps all))

-- a meeting is with a switch that is there
pub met : (w : Scenario) → IsScenario w → All (λ (m : Meeting). m.switch_at < length w.switches) (meetings w)
met w is = met_packets (length w.switches) 0 (packets w) (guided_steps (length w.hosts) (length w.switches) 0 w.flows w.steps is.flows.each is.steps.each)

-- and an entry of an allowed list names one, of an epoch that ended, and an index below the width
pub record IsPlaced (w : Scenario) (c : Carry) : Type 0 where
  pub declared : c.switch_at < length w.switches
  pub index : c.index < w.shape.width
  pub ended : c.epoch < ended w c.switch_at (length w.steps)

ended_in_all : (w : Scenario) (s n : ℕ) → ended w s n ≤ ended w s (length w.steps)
ended_in_all w s n =
    let more = ended_rises w s n (n + length w.steps) (omega arith) in
    let all : ended w s (n + length w.steps) ≡ ended w s (length w.steps) =
    ap (count_by (is_end_of s)) (take_all (n + length w.steps) w.steps (omega arith) ∙ sym (take_all (length w.steps) w.steps (omega arith))) in
    omega (arith, more, all)

placed_by : (w : Scenario) (c : Carry) (ms : List Meeting) → All (λ (m : Meeting). m.switch_at < length w.switches) ms → Any (IsCarriedAt w c) ms →
    IsPlaced w c
placed_by w c ms all any =
    let m : Meeting = any.1 in
    let is : IsCarriedAt w c m = any.4 in
    let At : Meeting → Type 0 = λ x. x.switch_at < length w.switches in
    let low : m.switch_at < length w.switches = subst At any.3 (All-get_or At ms any.0 m any.2 all) in
    let before : ended w c.switch_at m.step_at ≡ c.epoch + 1 = ap (λ s. ended w s m.step_at) (sym is.switch) ∙ is.epoch in
    record {
      declared = subst (λ s. s < length w.switches) is.switch low;
      index = is.index;
      ended = omega (arith, before, ended_in_all w c.switch_at m.step_at);
    }

placed_all : (w : Scenario) (cs : List Carry) → All (λ (m : Meeting). m.switch_at < length w.switches) (meetings w) →
    All (λ (c : Carry). Any (IsCarriedAt w c) (meetings w)) cs → All (IsPlaced w) cs
placed_all w cs all each = λ k d inside. placed_by w (slice_index_or cs k d) (meetings w) all (each k d inside)

pub placed : (w : Scenario) (cs : List Carry) → IsScenario w → IsAllowed w cs → All (IsPlaced w) cs
placed w cs is allowed = placed_all w cs (met w is) allowed.each
