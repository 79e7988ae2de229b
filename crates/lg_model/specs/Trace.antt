-- What the switches see: each packet by itself, with no sketch.
use Rattle.std.specs.Prelude.{ℕ, ◌+◌, ◌-◌, Bool, true, false, ◌==◌, ◌&&◌, List, [], ◌∷◌, map, take, length, replicate, Option, None, Some, slice_index, slice_index_or, if◌then◌else◌, filter, sum_by, fold, max}
use Rattle.std.specs.List.{flat_map, filter_map, enumerate_from}
use Rattle.flow_key.specs.declared.key.FlowKey.{FlowKey}
use Rattle.lg_model.specs.declared.scenario.Flow.{Flow}
use Rattle.lg_model.specs.declared.scenario.Fate.{Fate}
use Rattle.lg_model.specs.declared.scenario.Step.{Step}
use Rattle.lg_model.specs.declared.scenario.Step.TheVariants as steps
use Rattle.lg_model.specs.Placing.{same_key}
use Rattle.lg_model.specs.Scenario.{Scenario, flow_at, reached, ended}

-- A packet, with the position of its step: its flow, its size in bytes, its delay at each hop in microseconds, its fate.
pub record Packet : Type 0 where
  pub step_at : ℕ
  pub flow : Flow
  pub size : ℕ
  pub delays : List ℕ
  pub fate : Fate

abbrev pub packet_of : List Flow → (step_at at size : ℕ) (delays : List ℕ) → Fate → Packet
packet_of flows n at size delays fate = record { step_at = n; flow = flow_at flows at; size = size; delays = delays; fate = fate }

-- The packets of a step, as many as its burst says.
abbrev pub packets_of : List Flow → ℕ × Step → List Packet
packets_of flows (n, steps.Packet at size delays burst fate) = replicate burst (packet_of flows n at size delays fate)
packets_of flows (n, steps.End s) = []
packets_of flows (n, steps.EndAll) = []
packets_of flows (n, steps.Release) = []

-- All packets in order. They are numbered from 0.
abbrev pub packets : Scenario → List Packet
packets w = flat_map (packets_of w.flows) (enumerate_from 0 w.steps)

-- The packets of the first n steps.
abbrev pub packets_until : Scenario → ℕ → List Packet
packets_until w n = flat_map (packets_of w.flows) (enumerate_from 0 (take n w.steps))

-- How many hops of its path a packet reaches.
abbrev pub reach : Packet → ℕ
reach p = reached p.fate (length p.flow.path)

-- A packet, by its number, meets a switch, by its position, at a hop that it reaches. Hops are numbered from 1.
pub record Meeting : Type 0 where
  pub number : ℕ
  pub step_at : ℕ
  pub hop : ℕ
  pub hops : ℕ
  pub switch_at : ℕ
  pub key : FlowKey
  pub size : ℕ
  pub delay : ℕ

abbrev pub meeting_of : ℕ → Packet → ℕ × ℕ → Meeting
meeting_of n p (k, s) = record {
  number = n;
  step_at = p.step_at;
  hop = k + 1;
  hops = length p.flow.path;
  switch_at = s;
  key = p.flow.key;
  size = p.size;
  delay = slice_index p.delays k;
}

abbrev pub meetings_of : ℕ × Packet → List Meeting
meetings_of (n, p) = map (meeting_of n p) (enumerate_from 0 (take (reach p) p.flow.path))

-- The meetings of packets that are numbered from 0, by packet and then by hop.
abbrev pub meetings_in : List Packet → List Meeting
meetings_in ps = flat_map meetings_of (enumerate_from 0 ps)

-- All meetings of a scenario, in the order in which they happen.
abbrev pub meetings : Scenario → List Meeting
meetings w = meetings_in (packets w)

-- How many epochs the switch of a meeting has ended before it.
abbrev pub ended_before : Scenario → Meeting → ℕ
ended_before w m = ended w m.switch_at m.step_at

-- What a switch sees of a packet: the key of its flow, its size, and its delay there.
pub record Observation : Type 0 where
  pub key : FlowKey
  pub size : ℕ
  pub delay : ℕ

abbrev pub observation : Meeting → Observation
observation m = record { key = m.key; size = m.size; delay = m.delay }

-- The observation at a meeting, where it is of that switch and epoch.
abbrev pub observed : Scenario → ℕ → ℕ → Meeting → Option Observation
observed w s e m = if m.switch_at == s && ended_before w m == e then Some (observation m) else None

-- What the switch at position s sees in epoch e at these meetings.
abbrev pub seen_in : Scenario → ℕ → ℕ → List Meeting → List Observation
seen_in w s e ms = filter_map (observed w s e) ms

-- All that the switch at position s sees in epoch e, in order.
abbrev pub seen : Scenario → ℕ → ℕ → List Observation
seen w s e = seen_in w s e (meetings w)

-- The observations of one flow.
abbrev pub of_flow : FlowKey → List Observation → List Observation
of_flow f xs = filter (λ x. same_key x.key f) xs

-- The true sum of a flow, in bytes and without a bound.
abbrev pub sum_of : List Observation → FlowKey → ℕ
sum_of xs f = sum_by (λ x. x.size) (of_flow f xs)

-- The true maximum of a flow, in microseconds; 0 where nothing of it was seen.
abbrev pub most_of : List Observation → FlowKey → ℕ
most_of xs f = fold (λ most x. max most x.delay) 0 (of_flow f xs)
