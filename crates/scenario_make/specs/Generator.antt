-- The generated scenario of some rounds: two hosts, four switches and eight flows, whose packets are lost, repeated and
-- held in turn, and columns that all arrive in the end.
use Rattle.std.specs.Prelude.{◌≡◌, ℕ, ◌+◌, ◌*◌, ◌-◌, ◌%◌, ◌==◌, ◌||◌, List, [], ◌∷◌, ◌++◌, map, if◌then◌else◌}
use Rattle.std.specs.List.{flat_map, range_with_len}
use Rattle.lg_model.specs.declared.scenario.Hash.TheVariants.{Seed}
use Rattle.lg_model.specs.declared.scenario.Pick.TheVariants.{Turns}
use Rattle.lg_model.specs.declared.scenario.Letter.TheVariants as letters
use Rattle.lg_model.specs.declared.scenario.HostLine.{HostLine}
use Rattle.lg_model.specs.declared.scenario.Flow.{Flow}
use Rattle.lg_model.specs.declared.scenario.Fate.{Fate}
use Rattle.lg_model.specs.declared.scenario.Fate.TheVariants as fates
use Rattle.lg_model.specs.declared.scenario.Step.{Step}
use Rattle.lg_model.specs.declared.scenario.Step.TheVariants.{Packet, EndAll}
use Rattle.lg_model.specs.declared.scenario.Ask.{Ask}
use Rattle.lg_model.specs.Placing.{Shape}
use Rattle.lg_model.specs.Scenario.{Scenario, packet_count}
use Rattle.scenario_parts.specs.Whole.{IsWhole}

-- ---- what is declared

-- The sketches have 4 rows of 16 buckets, and the hash has the number of rounds as its seed.
abbrev pub generated_shape : (rounds : ℕ) → Shape
generated_shape rounds = record { rows = 4; width = 16; hash = Seed rounds }

-- The hosts 1 and 2, with the letters `xarh` and `hdxa`.
abbrev pub generated_hosts : List HostLine
generated_hosts =
    record { name = 1; letters = letters.Lose ∷ letters.LoseReply ∷ letters.Twice ∷ letters.Hold ∷ [] }
    ∷ record { name = 2; letters = letters.Hold ∷ letters.Deliver ∷ letters.Lose ∷ letters.LoseReply ∷ [] } ∷ []

-- The switches 1 to 4.
abbrev pub generated_switches : List ℕ
generated_switches = 1 ∷ 2 ∷ 3 ∷ 4 ∷ []

-- The names of the flows, 1 to 8. The flow f stands at the position f - 1.
abbrev pub flow_names : List ℕ
flow_names = range_with_len 1 8

-- The flow f goes from 10.0.0.f, port 1000 + f, to 10.0.1.f, port 80, by protocol 6. It ends at the host at position
-- f mod 2, by the switches at the three positions from f on, mod 4.
abbrev pub generated_flow : ℕ → Flow
generated_flow f = record {
  name = f;
  key = record { src = 10 ∷ 0 ∷ 0 ∷ f ∷ []; dst = 10 ∷ 0 ∷ 1 ∷ f ∷ []; proto = 6; sport = 1000 + f; dport = 80 };
  host_at = f % 2;
  path = f % 4 ∷ (f + 1) % 4 ∷ (f + 2) % 4 ∷ [];
}

abbrev pub generated_flows : List Flow
generated_flows = map generated_flow flow_names

-- ---- what happens

-- The number of a burst: those of round r, counted from 0, are 8 * r + 1 to 8 * r + 8, flow after flow.
abbrev pub burst_number : (r f : ℕ) → ℕ
burst_number r f = 8 * r + f

-- The size of the packets of burst m, 64 to 1500 bytes.
abbrev pub size_of : (m : ℕ) → ℕ
size_of m = 64 + (37 * m) % 1437

-- How long a packet of round r and flow f waits at its hop k, 1 to 3: 0 to 999 microseconds.
abbrev pub delay_of : (r f k : ℕ) → ℕ
delay_of r f k = (r + f + 10 * k) % 1000

-- Of 16 bursts the third is lost after one hop, the seventh arrives twice, and the eleventh is late.
abbrev pub fate_of : (m : ℕ) → Fate
fate_of m =
    if m % 16 == 3 then fates.Lost 1
    else (if m % 16 == 7 then fates.Twice
    else (if m % 16 == 11 then fates.Late
    else fates.Straight))

-- In each round each flow sends 20 packets.
abbrev pub generated_burst : (r f : ℕ) → Step
generated_burst r f =
    Packet (f - 1) (size_of (burst_number r f)) (delay_of r f 1 ∷ delay_of r f 2 ∷ delay_of r f 3 ∷ []) 20
    (fate_of (burst_number r f))

-- After each tenth round, and after the last one, every switch ends an epoch.
abbrev pub generated_end : (rounds r : ℕ) → List Step
generated_end rounds r = if r % 10 == 9 || r + 1 == rounds then EndAll ∷ [] else []

abbrev pub generated_round : (rounds r : ℕ) → List Step
generated_round rounds r = map (generated_burst r) flow_names ++ generated_end rounds r

-- At the end each flow sends 32 packets more, which bring what the switches froze last.
abbrev pub last_burst : (f : ℕ) → Step
last_burst f = Packet (f - 1) 64 (1 ∷ 1 ∷ 1 ∷ []) 32 fates.Straight

-- Round after round, and the last bursts.
abbrev pub generated_rounds : (rounds : ℕ) → List Step
generated_rounds rounds = flat_map (generated_round rounds) (range_with_len 0 rounds)

abbrev pub generated_steps : (rounds : ℕ) → List Step
generated_steps rounds = generated_rounds rounds ++ map last_burst flow_names

-- ---- what is asked

-- What the first switch of the path of flow f saw of it in epoch 0.
abbrev pub generated_ask : (f : ℕ) → Ask
generated_ask f = record { flow_at = f - 1; switch = 1 + f % 4; epoch = 0 }

abbrev pub generated_asks : List Ask
generated_asks = map generated_ask flow_names

-- ---- all of it

-- The generated scenario of 1 to 1,000 rounds.
abbrev pub generated : (rounds : ℕ) → Scenario
generated rounds = record {
  shape = generated_shape rounds;
  pick = Turns;
  hosts = generated_hosts;
  switches = generated_switches;
  flows = generated_flows;
  steps = generated_steps rounds;
  asks = generated_asks;
}

-- It is a scenario, of 160 packets a round and 256 at the end.
pub record IsGenerated (rounds : ℕ) : Type 0 where
  pub whole : IsWhole (generated rounds)
  pub packets : packet_count (generated rounds).steps ≡ 160 * rounds + 256
