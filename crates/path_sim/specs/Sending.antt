-- The packets of a step.
use Rattle.std.specs.Prelude.{◌≡◌, ℕ, ◌<◌, ◌≤◌, ◌-◌, ◌++◌, ◌∷◌, [], length, slice_index, All}
use Rattle.lg_model.specs.declared.limits.TheConstants.{MOST_HOPS, MOST_PACKETS}
use Rattle.lg_model.specs.Placing.{places_of}
use Rattle.lg_model.specs.Scenario.{Scenario, reached}
use Rattle.lg_model.specs.Scenario.{flow_at as flow_of}
use Rattle.lg_model.specs.declared.scenario.Step.TheVariants as steps
use Rattle.lg_model.specs.Trace.{Packet, packets, packets_until}
use Rattle.lg_model.specs.Arriving.{packet_at}
use Rattle.path_sim.specs.declared.meeting.Visit.{Visit}
use Rattle.path_sim.specs.declared.sending.Sent.{Sent}
use Rattle.path_sim.specs.Parts.{meeting_is, meetings_to, step_in}

-- It is a meeting of the scenario, of a packet of its step, at a hop of its path, and it is told as it is.
pub record IsVisit (w : Scenario) (m : Visit) : Type 0 where
  pub inside : m.step_at ≤ length w.steps
  pub first : length (packets_until w m.step_at) ≤ m.number
  pub few : m.number < MOST_PACKETS
  pub first_hop : 1 ≤ m.hop
  pub last_hop : m.hop ≤ m.hops
  pub few_hops : m.hops ≤ MOST_HOPS
  pub switch : m.switch_at < length w.switches
  pub name : m.switch ≡ slice_index w.switches m.switch_at
  pub next : meetings_to w m.number m.hop ≡ meetings_to w m.number (m.hop - 1) ++ meeting_is m ∷ []

-- Each of them is this packet.
abbrev pub packet_is : Sent → Packet
packet_is s = record { step_at = s.step_at; flow = s.flow.now; size = s.size; delays = s.delays.now; fate = s.fate }

-- They can go their way: its switches are there, they are 16 at most, and there is a delay for each.
pub record IsFit (switches : ℕ) (s : Sent) : Type 0 where
  pub path : All (λ a. a < switches) s.flow.now.path
  pub few_hops : length s.flow.now.path ≤ MOST_HOPS
  pub delays : length s.delays.now ≡ length s.flow.now.path
  pub reached_is : s.reached ≡ reached s.fate (length s.flow.now.path)
  pub reach : s.reached ≤ length s.flow.now.path

-- The packet of number k is one of them.
pub record IsSending (w : Scenario) (k : ℕ) (s : Sent) : Type 0 where
  pub number : k < length (packets w)
  pub few : length (packets w) ≤ MOST_PACKETS
  pub packet : packet_at w k ≡ packet_is s
  pub inside : s.step_at ≤ length w.steps
  pub first : length (packets_until w s.step_at) ≤ k
  pub fits : IsFit (length w.switches) s
  pub host : s.flow.now.host_at < length w.hosts
  pub places : s.places.now ≡ places_of w.shape s.flow.now.key

-- A step of the scenario sends these packets.
pub record IsPacketStep (w : Scenario) (s : Sent) : Type 0 where
  pub inside : s.step_at < length w.steps
  pub flow_at : ℕ
  pub step : step_in w s.step_at ≡ steps.Packet flow_at s.size s.delays.now s.burst s.fate
  pub flow : s.flow.now ≡ flow_of w.flows flow_at
  pub places : s.places.now ≡ places_of w.shape s.flow.now.key
  pub reached_is : s.reached ≡ reached s.fate (length s.flow.now.path)
