-- The limits: a scenario at most of them, and what is past each, by computation and by cases.
use Rattle.std.specs.Prelude.{◌≡◌, ℕ, ◌^◌, List, [], ◌∷◌, map, replicate}
use Rattle.std.specs.List.{range_with_len}
use Rattle.flow_key.specs.KeyText.{IsAddress, Fits}
use Rattle.lg_model.specs.declared.limits.TheConstants.{MOST_ROWS, MOST_WIDTH, LAST_BYTES, LAST_DELAY, MOST_TEXT_BYTES}
use Rattle.lg_model.specs.declared.limits.TheConstants.{MOST_HOSTS}
use Rattle.lg_model.specs.declared.limits.TheConstants.{MOST_SWITCHES, MOST_FLOWS, MOST_HOPS, MOST_PACKETS, MOST_ENDS}
use Rattle.lg_model.specs.declared.limits.TheConstants.{MOST_ASKS}
use Rattle.lg_model.specs.declared.limits.TheConstants.{MOST_LETTERS, MOST_SKETCHLET_BYTES, MOST_UPLOAD_COLUMNS}
use Rattle.lg_model.specs.declared.limits.TheConstants.{MOST_FRAME_BYTES}
use Rattle.lg_model.specs.declared.limits.TheConstants.{MOST_OUTSTANDING, MOST_PASSES}
use Rattle.lg_model.specs.declared.scenario.Fate.{Fate}
use Rattle.lg_model.specs.declared.scenario.Fate.TheVariants.{Straight, Lost}
use Rattle.lg_model.specs.declared.scenario.Flow.{Flow}
use Rattle.lg_model.specs.declared.scenario.Hash.TheVariants.{Ports, Seed}
use Rattle.lg_model.specs.declared.scenario.Pick.TheVariants.{Turns, Chance}
use Rattle.lg_model.specs.declared.scenario.Step.{Step}
use Rattle.lg_model.specs.declared.scenario.Step.TheVariants.{Packet, End, EndAll}
use Rattle.lg_model.specs.declared.column.Bucket.{Bucket}
use Rattle.lg_model.specs.Columns.{Column}
use Rattle.lg_model.specs.Placing.{IsShape}
use Rattle.lg_model.specs.Keeping.{IsScenario, IsFlow, IsStep, IsHost, IsAsk}
use Rattle.lg_model.specs.Scenario.{Scenario}
use Rattle.sketchlet_wire.specs.Spelling.{IsColumn, FitsBucket, FitsKey}
use Rattle.column_book.specs.declared.book.TheConstants.{ROOM}
use Rattle.lg_model.specs.Ranges.{IsHashRange, IsPickRange}
use Rattle.worked_examples.specs.Networks.{bucket, key_of, cells, ports, flow, host, ask}

-- A flow by 16 switches.
abbrev pub long : Flow
long = flow 1 (ports 2 1) 63 (range_with_len 48 16)

-- A step of it with these delays.
abbrev pub sends : List ℕ → (burst : ℕ) → Fate → Step
sends delays burst fate = Packet 0 1 delays burst fate

-- 64 hosts and switches, 16 hops, a million packets.
abbrev pub greatest : Scenario
greatest = record {
  shape = record { rows = 8; width = 4096; hash = Ports };
  pick = Turns;
  hosts = map host (range_with_len 0 64);
  switches = range_with_len 0 64;
  flows = long ∷ [];
  steps = sends (replicate 16 1) 1000000 (Lost 16) ∷ EndAll ∷ [];
  asks = ask 0 0 0 ∷ [];
}

-- A column of one row and four buckets.
abbrev pub column : (index : ℕ) → List Bucket → Column
column j bs = record { key = key_of 1 1 j; dims = record { rows = 1; width = 4 }; cells = cells bs }

pub record WorkedLimits : Type 0 where
  pub constants : MOST_ROWS ∷ MOST_WIDTH ∷ MOST_HOSTS ∷ MOST_SWITCHES ∷ MOST_FLOWS ∷ MOST_HOPS ∷ MOST_PACKETS
      ∷ MOST_ENDS ∷ MOST_ASKS ∷ MOST_LETTERS ∷ MOST_TEXT_BYTES ∷ []
      ≡ 8 ∷ 4096 ∷ 64 ∷ 64 ∷ 4096 ∷ 16 ∷ 1000000 ∷ 65535 ∷ 10000 ∷ 4096 ∷ 16777216 ∷ []
  pub other_constants : LAST_BYTES ∷ LAST_DELAY ∷ MOST_SKETCHLET_BYTES ∷ MOST_UPLOAD_COLUMNS ∷ MOST_FRAME_BYTES
      ∷ MOST_OUTSTANDING ∷ MOST_PASSES ∷ ROOM ∷ []
      ≡ 4294967295 ∷ 65535 ∷ 62 ∷ 16 ∷ 1000 ∷ 8 ∷ 65 ∷ 262144 ∷ []
  pub at_them : IsScenario greatest
  -- one past each
  pub no_rows : IsShape 0 1 → ⊥
  pub nine_rows : IsShape 9 1 → ⊥
  pub no_width : IsShape 1 0 → ⊥
  pub wide : IsShape 1 4097 → ⊥
  pub hosts : IsScenario (record greatest { hosts = map host (range_with_len 0 65) }) → ⊥
  pub switches : IsScenario (record greatest { switches = range_with_len 0 65 }) → ⊥
  pub packets : IsScenario (record greatest { steps = sends (replicate 16 1) 1000001 Straight ∷ [] }) → ⊥
  pub other_ask : IsScenario (record greatest { asks = ask 1 0 0 ∷ [] }) → ⊥
  pub no_hops : IsFlow 64 64 (record long { path = [] }) → ⊥
  pub many_hops : IsFlow 64 64 (record long { path = replicate 17 1 }) → ⊥
  pub other_host : IsFlow 63 64 long → ⊥
  pub other_switch : IsFlow 64 63 long → ⊥
  pub few_delays : IsStep 64 (long ∷ []) (sends (replicate 15 1) 1 Straight) → ⊥
  pub lost_past : IsStep 64 (long ∷ []) (sends (replicate 16 1) 1 (Lost 17)) → ⊥
  pub other_flow : IsStep 64 [] (sends [] 1 Straight) → ⊥
  pub no_switch : IsStep 63 [] (End 63) → ⊥
  -- the ranges of what a line says
  pub seed : IsHashRange (Seed (2 ^ 64)) → ⊥
  pub pick : IsPickRange (Chance (2 ^ 64)) → ⊥
  pub host_name : IsHost (host 65536) → ⊥
  pub flow_name : IsFlow 64 64 (record long { name = 65536 }) → ⊥
  pub twice_by : IsFlow 64 64 (record long { path = 3 ∷ 4 ∷ 3 ∷ [] }) → ⊥
  pub size : IsStep 64 (long ∷ []) (Packet 0 65536 (replicate 16 1) 1 Straight) → ⊥
  pub delay : IsStep 64 (long ∷ []) (sends (4294967296 ∷ replicate 15 1) 1 Straight) → ⊥
  pub burst : IsStep 64 (long ∷ []) (sends (replicate 16 1) 0 Straight) → ⊥
  pub undeclared : IsAsk (1 ∷ 2 ∷ []) (long ∷ []) (ask 0 3 0) → ⊥
  pub epoch : IsAsk (1 ∷ 2 ∷ []) (long ∷ []) (ask 0 2 4294967296) → ⊥
  -- keys and columns
  pub five : IsAddress (1 ∷ 2 ∷ 3 ∷ 4 ∷ 5 ∷ []) → ⊥
  pub not_a_byte : IsAddress (1 ∷ 2 ∷ 3 ∷ 256 ∷ []) → ⊥
  pub port : Fits (ports 65536 1) → ⊥
  pub other_port : Fits (ports 1 65536) → ⊥
  pub proto : Fits (record (ports 1 1) { proto = 256 }) → ⊥
  pub sum : FitsBucket (bucket 4294967296 0) → ⊥
  pub maximum : FitsBucket (bucket 0 65536) → ⊥
  pub switch : FitsKey (key_of 65536 0 0) → ⊥
  pub index : IsColumn (column 4 (bucket 1 1 ∷ [])) → ⊥
  pub rows : IsColumn (column 3 []) → ⊥
