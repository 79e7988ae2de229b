-- A scenario: what is declared, what happens in order, and what is asked.
use Rattle.std.specs.Prelude.{ℕ, List, slice_index_or, [], count_by, sum_by, take, Bool, true, false, ◌==◌}
use Rattle.flow_key.specs.declared.key.FlowKey.{FlowKey}
use Rattle.lg_model.specs.declared.parts.Parts.{Parts}
use Rattle.lg_model.specs.declared.scenario.HostLine.{HostLine}
use Rattle.lg_model.specs.declared.scenario.Flow.{Flow}
use Rattle.lg_model.specs.declared.scenario.Step.{Step}
use Rattle.lg_model.specs.declared.scenario.Step.TheVariants as steps
use Rattle.lg_model.specs.declared.scenario.Fate.{Fate}
use Rattle.lg_model.specs.declared.scenario.Fate.TheVariants as fates
use Rattle.lg_model.specs.declared.scenario.Ask.{Ask}
use Rattle.lg_model.specs.declared.scenario.Pick.{Pick}
use Rattle.lg_model.specs.Placing.{Shape}

-- Steps name flows and switches by their positions in these lists, flows name hosts and switches so. An ask names its
-- switch by name.
pub record Scenario : Type 0 where
  pub shape : Shape
  pub pick : Pick
  pub hosts : List HostLine
  pub switches : List ℕ
  pub flows : List Flow
  pub steps : List Step
  pub asks : List Ask

-- The scenario that parts are, without where they lie in memory.
abbrev pub scenario_of : Parts → Scenario
scenario_of p = record {
  shape = p.shape;
  pick = p.pick;
  hosts = p.hosts.items;
  switches = p.switches.items;
  flows = p.flows.items;
  steps = p.steps.items;
  asks = p.asks.items;
}

-- The flow of no name, for a position that no flow has.
abbrev pub no_flow : Flow
no_flow = record { name = 0; key = record { src = []; dst = []; proto = 0; sport = 0; dport = 0 }; host_at = 0; path = [] }

-- The flow at a position.
abbrev pub flow_at : List Flow → ℕ → Flow
flow_at flows at = slice_index_or flows at no_flow

-- The path of the flow at a position; no switch where no flow is there.
abbrev pub path_at : List Flow → ℕ → List ℕ
path_at flows at = (flow_at flows at).path

-- How many of the hops of its path a packet of that fate reaches.
abbrev pub reached : Fate → ℕ → ℕ
reached fates.Straight hops = hops
reached (fates.Lost k) hops = k
reached fates.Twice hops = hops
reached fates.Late hops = hops

-- Whether a step ends an epoch of the switch at position s.
abbrev pub is_end_of : ℕ → Step → Bool
is_end_of s (steps.Packet _ _ _ _ _) = false
is_end_of s (steps.End t) = t == s
is_end_of s steps.EndAll = true
is_end_of s steps.Release = false

-- How many epochs of the switch at position s the first n steps end.
abbrev pub ended : Scenario → ℕ → ℕ → ℕ
ended w s n = count_by (is_end_of s) (take n w.steps)

-- How many packets a step sends.
abbrev pub burst_of : Step → ℕ
burst_of (steps.Packet _ _ _ burst _) = burst
burst_of (steps.End _) = 0
burst_of steps.EndAll = 0
burst_of steps.Release = 0

-- How many packets a scenario sends.
abbrev pub packet_count : List Step → ℕ
packet_count steps = sum_by burst_of steps
