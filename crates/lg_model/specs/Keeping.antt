-- What every scenario keeps, part by part: the parts fit each other, no limit is passed, and the lines that say them can be read again.
use Rattle.std.specs.Prelude.{◌≡◌, ◌≢◌, ℕ, ◌<◌, ◌≤◌, true, List, length, All, map, count_by, ◌==◌}
use Rattle.std.specs.List.{AllPairs, list_any}
use Rattle.flow_key.specs.KeyText.{Fits}
use Rattle.lg_model.specs.declared.limits.TheConstants.{MOST_HOSTS, MOST_SWITCHES, MOST_FLOWS, MOST_HOPS, MOST_PACKETS, MOST_ENDS, MOST_ASKS, MOST_LETTERS}
use Rattle.lg_model.specs.declared.scenario.HostLine.{HostLine}
use Rattle.lg_model.specs.declared.scenario.Flow.{Flow}
use Rattle.lg_model.specs.declared.scenario.Fate.{Fate}
use Rattle.lg_model.specs.declared.scenario.Step.{Step}
use Rattle.lg_model.specs.declared.scenario.Step.TheVariants as steps
use Rattle.lg_model.specs.declared.scenario.Ask.{Ask}
use Rattle.lg_model.specs.Placing.{IsShape}
use Rattle.lg_model.specs.Ranges.{IsHashRange, IsPickRange}
use Rattle.lg_model.specs.Scenario.{Scenario, flow_at, reached, is_end_of, packet_count}

-- No number comes twice.
abbrev pub AreApart : List ℕ → Type 0
AreApart names = AllPairs (λ m n. m ≢ n) names

-- ---- hosts

-- A host's name has 16 bits, and the letters of its link are at most 4,096.
pub record IsHost (h : HostLine) : Type 0 where
  pub name : h.name < 65536
  pub few_letters : length h.letters ≤ MOST_LETTERS

-- The names of hosts, in their order.
abbrev pub host_names : List HostLine → List ℕ
host_names hosts = map (λ h. h.name) hosts

-- At most 64 hosts, each with a name of its own.
pub record AreHosts (hosts : List HostLine) : Type 0 where
  pub few : length hosts ≤ MOST_HOSTS
  pub each : All IsHost hosts
  pub own : AreApart (host_names hosts)

-- ---- switches

-- At most 64 switches, each with a name of its own, of 16 bits.
pub record AreSwitches (switches : List ℕ) : Type 0 where
  pub few : length switches ≤ MOST_SWITCHES
  pub each : All (λ n. n < 65536) switches
  pub own : AreApart switches

-- ---- flows

-- A flow has a name of 16 bits and a key whose fields are in their ranges. It ends at a host that is there and goes by 1 to 16
-- switches that are, by each once.
pub record IsFlow (hosts switches : ℕ) (f : Flow) : Type 0 where
  pub name : f.name < 65536
  pub key : Fits f.key
  pub host : f.host_at < hosts
  pub path : All (λ s. s < switches) f.path
  pub some_hops : 1 ≤ length f.path
  pub few_hops : length f.path ≤ MOST_HOPS
  pub once : AreApart f.path

-- The names of flows, in their order.
abbrev pub names_of : List Flow → List ℕ
names_of flows = map (λ f. f.name) flows

-- At most 4,096 flows, each with a name of its own.
pub record AreFlows (hosts switches : ℕ) (flows : List Flow) : Type 0 where
  pub few : length flows ≤ MOST_FLOWS
  pub each : All (IsFlow hosts switches) flows
  pub own : AreApart (names_of flows)

-- ---- steps

-- Packets are of a flow that is there, of at most 65,535 bytes, with a delay of 32 bits for each hop. They reach no more hops than there
-- are, and a burst is of at least one.
pub record IsPacket (flows : List Flow) (at bytes : ℕ) (delays : List ℕ) (burst : ℕ) (fate : Fate) : Type 0 where
  pub flow : at < length flows
  pub size : bytes < 65536
  pub each_delay : All (λ d. d < 4294967296) delays
  pub hops : length delays ≡ length (flow_at flows at).path
  pub reach : reached fate (length (flow_at flows at).path) ≤ length (flow_at flows at).path
  pub some : 1 ≤ burst

-- A step speaks of what is there.
abbrev pub IsStep : (switches : ℕ) → List Flow → Step → Type 0
IsStep switches flows (steps.Packet at size delays burst fate) = IsPacket flows at size delays burst fate
IsStep switches flows (steps.End s) = s < switches
IsStep switches flows steps.EndAll = Unit {0}
IsStep switches flows steps.Release = Unit {0}

-- How many epochs of the switch at a position these steps end.
abbrev pub ends_of : ℕ → List Step → ℕ
ends_of at steps = count_by (is_end_of at) steps

-- At most 1,000,000 packets with bursts, and at most 65,535 ends of each switch.
pub record AreSteps (switches : ℕ) (flows : List Flow) (steps : List Step) : Type 0 where
  pub each : All (IsStep switches flows) steps
  pub few_packets : packet_count steps ≤ MOST_PACKETS
  pub few_ends : (s : ℕ) → s < switches → ends_of s steps ≤ MOST_ENDS

-- ---- asks

-- An ask is about a flow that is there and a switch that is declared, whose name has 16 bits, and the epoch has 32.
pub record IsAsk (switches : List ℕ) (flows : List Flow) (q : Ask) : Type 0 where
  pub flow : q.flow_at < length flows
  pub declared : list_any (λ m. m == q.switch) switches ≡ true
  pub switch : q.switch < 65536
  pub epoch : q.epoch < 4294967296

-- At most 10,000 asks.
pub record AreAsks (switches : List ℕ) (flows : List Flow) (asks : List Ask) : Type 0 where
  pub few : length asks ≤ MOST_ASKS
  pub each : All (IsAsk switches flows) asks

-- ---- all parts

pub record IsScenario (w : Scenario) : Type 0 where
  pub shape : IsShape w.shape.rows w.shape.width
  pub hash : IsHashRange w.shape.hash
  pub pick : IsPickRange w.pick
  pub hosts : AreHosts w.hosts
  pub switches : AreSwitches w.switches
  pub flows : AreFlows (length w.hosts) (length w.switches) w.flows
  pub steps : AreSteps (length w.switches) w.flows w.steps
  pub asks : AreAsks w.switches w.flows w.asks
