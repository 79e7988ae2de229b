-- A network of two switches, of names that are not their positions, for the worked examples of the network.
use Rattle.std.specs.Prelude.{ℕ, List, [], ◌∷◌}
use Rattle.flow_key.specs.declared.key.FlowKey.{FlowKey}
use Rattle.lg_model.specs.declared.column.Bucket.{Bucket}
use Rattle.lg_model.specs.declared.column.Key.{Key}
use Rattle.lg_model.specs.declared.scenario.Ask.{Ask}
use Rattle.lg_model.specs.declared.scenario.Fate.{Fate}
use Rattle.lg_model.specs.declared.scenario.Flow.{Flow}
use Rattle.lg_model.specs.declared.scenario.Hash.TheVariants.{Ports}
use Rattle.lg_model.specs.declared.scenario.HostLine.{HostLine}
use Rattle.lg_model.specs.declared.scenario.Pick.{Pick}
use Rattle.lg_model.specs.declared.scenario.Step.{Step}
use Rattle.lg_model.specs.declared.scenario.Step.TheVariants.{Packet}
use Rattle.lg_model.specs.Columns.{Cells, Column}
use Rattle.lg_model.specs.Scenario.{Scenario}

abbrev pub bucket : (bytes delay : ℕ) → Bucket
bucket bytes delay = record { bytes = bytes; delay = delay }

abbrev pub key_of : (switch epoch index : ℕ) → Key
key_of s e j = record { switch = s; epoch = e; index = j }

abbrev pub cells : List Bucket → Cells
cells bs = record { buckets = bs }

-- The flows, which differ in their ports: from port a to port b.
abbrev pub ports : (a b : ℕ) → FlowKey
ports a b = record { src = 10 ∷ 0 ∷ 0 ∷ 1 ∷ []; dst = 10 ∷ 0 ∷ 0 ∷ 2 ∷ []; proto = 6; sport = a; dport = b }

abbrev pub flow : (name : ℕ) → FlowKey → (host_at : ℕ) → (path : List ℕ) → Flow
flow name key h path = record { name = name; key = key; host_at = h; path = path }

abbrev pub host : (name : ℕ) → HostLine
host name = record { name = name; letters = [] }

abbrev pub ask : (flow_at switch epoch : ℕ) → Ask
ask f s e = record { flow_at = f; switch = s; epoch = e }

-- Hosts 21 and 22, switches 11 and 12. Flow 31 goes by both switches to host 21, flow 32 by switch 12 alone to host 22.
-- The sketches have two rows, with places by ports: of two buckets flow 31 has 0 and 1, flow 32 has 1 and 1.
abbrev pub network : Pick → (width : ℕ) → List Step → List Ask → Scenario
network pick width steps asks = record {
  shape = record { rows = 2; width = width; hash = Ports };
  pick = pick;
  hosts = host 21 ∷ host 22 ∷ [];
  switches = 11 ∷ 12 ∷ [];
  flows = flow 31 (ports 2 1) 0 (0 ∷ 1 ∷ []) ∷ flow 32 (ports 3 2) 1 (1 ∷ []) ∷ [];
  steps = steps;
  asks = asks;
}

-- Packets of flow 31 by both switches, and of flow 32 by the second.
abbrev pub both : (size first second burst : ℕ) → Fate → Step
both size a b burst fate = Packet 0 size (a ∷ b ∷ []) burst fate

abbrev pub second : (size delay burst : ℕ) → Fate → Step
second size delay burst fate = Packet 1 size (delay ∷ []) burst fate

-- A column of two rows whose bytes count up.
abbrev pub odd : Column
odd = record {
  key = key_of 258 50595078 1800;
  dims = record { rows = 2; width = 2314 };
  cells = cells (bucket 185339150 3856 ∷ bucket 286397204 5398 ∷ []);
}
