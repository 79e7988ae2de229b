-- What happens in the network and what is true of it, by computation.
use Rattle.std.specs.Prelude.{◌≡◌, ℕ, List, [], ◌∷◌, map}
use Rattle.std.specs.List.{range_with_len}
use Rattle.lg_model.specs.declared.scenario.Fate.TheVariants.{Straight, Lost, Twice}
use Rattle.lg_model.specs.declared.scenario.Pick.TheVariants.{Turns}
use Rattle.lg_model.specs.declared.scenario.Step.TheVariants.{End, EndAll, Release}
use Rattle.lg_model.specs.Scenario.{Scenario, ended, packet_count}
use Rattle.lg_model.specs.Trace.{Packet, Meeting, Observation, packets, reach, meetings, ended_before, seen, sum_of}
use Rattle.lg_model.specs.Trace.{most_of}
use Rattle.worked_examples.specs.Networks.{ports, network, both, second}

-- Two packets that go all the way, one that is lost after its first hop, and one that comes twice; the first switch
-- ends two epochs, the second one.
abbrev pub traffic : Scenario
traffic = network Turns 2 (both 100 5 6 2 Straight ∷ End 0 ∷ both 200 7 8 1 (Lost 1) ∷ Release ∷ EndAll
    ∷ second 50 9 1 Twice ∷ []) []

abbrev pub words : Meeting → List ℕ
words m = m.number ∷ m.step_at ∷ m.hop ∷ m.hops ∷ m.switch_at ∷ m.size ∷ m.delay ∷ []

abbrev pub saw : (a b size delay : ℕ) → Observation
saw a b size delay = record { key = ports a b; size = size; delay = delay }

abbrev pub three : List Observation
three = saw 2 1 100 5 ∷ saw 3 2 9 90 ∷ saw 2 1 50 3 ∷ []

pub record WorkedPackets : Type 0 where
  -- as many as the bursts say, and nothing of other steps
  pub count : packet_count traffic.steps ≡ 4
  pub sizes : map (λ (p : Packet). p.size) (packets traffic) ≡ 100 ∷ 100 ∷ 200 ∷ 50 ∷ []
  pub steps : map (λ (p : Packet). p.step_at) (packets traffic) ≡ 0 ∷ 0 ∷ 2 ∷ 5 ∷ []
  pub names : map (λ (p : Packet). p.flow.name) (packets traffic) ≡ 31 ∷ 31 ∷ 31 ∷ 32 ∷ []
  -- one that is lost after hop 1 reaches that hop and no further
  pub reaches : map reach (packets traffic) ≡ 2 ∷ 2 ∷ 1 ∷ 1 ∷ []
  -- by packet and then by hop, each hop with its own delay: number, step, hop, hops, switch, size, delay
  pub met : map words (meetings traffic)
      ≡ (0 ∷ 0 ∷ 1 ∷ 2 ∷ 0 ∷ 100 ∷ 5 ∷ []) ∷ (0 ∷ 0 ∷ 2 ∷ 2 ∷ 1 ∷ 100 ∷ 6 ∷ [])
      ∷ (1 ∷ 0 ∷ 1 ∷ 2 ∷ 0 ∷ 100 ∷ 5 ∷ []) ∷ (1 ∷ 0 ∷ 2 ∷ 2 ∷ 1 ∷ 100 ∷ 6 ∷ [])
      ∷ (2 ∷ 2 ∷ 1 ∷ 2 ∷ 0 ∷ 200 ∷ 7 ∷ []) ∷ (3 ∷ 5 ∷ 1 ∷ 1 ∷ 1 ∷ 50 ∷ 9 ∷ []) ∷ []
  -- an end counts from the step after it, at its own switch alone, or at all
  pub ends : map (ended traffic 0) (range_with_len 0 7) ≡ 0 ∷ 0 ∷ 1 ∷ 1 ∷ 1 ∷ 2 ∷ 2 ∷ []
  pub other_ends : map (ended traffic 1) (range_with_len 0 7) ≡ 0 ∷ 0 ∷ 0 ∷ 0 ∷ 0 ∷ 1 ∷ 1 ∷ []
  pub epochs : map (ended_before traffic) (meetings traffic) ≡ 0 ∷ 0 ∷ 0 ∷ 0 ∷ 1 ∷ 1 ∷ []
  -- each switch sees its own, epoch by epoch
  pub first_saw : map (seen traffic 0) (range_with_len 0 3)
      ≡ (saw 2 1 100 5 ∷ saw 2 1 100 5 ∷ []) ∷ (saw 2 1 200 7 ∷ []) ∷ [] ∷ []
  pub second_saw : map (seen traffic 1) (range_with_len 0 2)
      ≡ (saw 2 1 100 6 ∷ saw 2 1 100 6 ∷ []) ∷ (saw 3 2 50 9 ∷ []) ∷ []
  -- of one flow, and not of all
  pub sums : map (sum_of three) (ports 2 1 ∷ ports 3 2 ∷ ports 7 7 ∷ []) ≡ 150 ∷ 9 ∷ 0 ∷ []
  pub maxima : map (most_of three) (ports 2 1 ∷ ports 3 2 ∷ ports 7 7 ∷ []) ≡ 5 ∷ 90 ∷ 0 ∷ []
