-- What comes to the hosts, and in which order, by computation.
use Rattle.std.specs.Prelude.{◌≡◌, ℕ, [], ◌∷◌, map, length, Some, None}
use Rattle.std.specs.List.{range_with_len}
use Rattle.lg_model.specs.declared.scenario.Fate.TheVariants.{Straight, Lost, Twice, Late}
use Rattle.lg_model.specs.declared.scenario.Pick.TheVariants.{Turns}
use Rattle.lg_model.specs.declared.scenario.Step.TheVariants.{Packet, EndAll, Release}
use Rattle.lg_model.specs.declared.column.Bucket.{Bucket}
use Rattle.lg_model.specs.Columns.{Column}
use Rattle.lg_model.specs.Scenario.{Scenario}
use Rattle.lg_model.specs.Carrying.{picked}
use Rattle.lg_model.specs.Arriving.{arrivals, held, column_of, cargo, brought, brought_to_all}
use Rattle.worked_examples.specs.Networks.{bucket, key_of, cells, ports, flow, network, both, second}
use Rattle.worked_examples.specs.Pickers.{entry}

-- Two late packets, one that is repeated, a release; then a lost one, a late burst of two, and a straight one.
abbrev pub delayed : Scenario
delayed = network Turns 2 (both 1 1 1 1 Late ∷ second 1 1 1 Late ∷ second 1 1 1 Twice ∷ Release
    ∷ both 1 1 1 1 (Lost 1) ∷ second 1 1 2 Late ∷ both 1 1 1 1 Straight ∷ []) []

abbrev pub twice_released : Scenario
twice_released = network Turns 2 (second 1 1 1 Late ∷ Release ∷ second 1 1 1 Straight ∷ Release
    ∷ second 1 1 1 Late ∷ []) []

-- One packet of each flow is counted, all epochs end, and packets of both flows carry columns to both hosts.
abbrev pub to_two : Scenario
to_two = network Turns 2 (both 100 5 6 1 Straight ∷ second 9 9 1 Straight ∷ EndAll
    ∷ second 1 1 1 Late ∷ both 1 1 1 1 Straight ∷ second 1 1 1 Straight ∷ both 1 1 1 1 (Lost 2) ∷ []) []

-- Flows by one switch to two hosts.
abbrev pub two_hosts : Scenario
two_hosts = record (network Turns 2 (EndAll ∷ second 1 1 1 Straight ∷ Packet 0 1 (1 ∷ []) 2 Straight ∷ []) []) {
  switches = 11 ∷ [];
  flows = flow 31 (ports 2 1) 0 (0 ∷ []) ∷ flow 32 (ports 3 2) 1 (0 ∷ []) ∷ [];
}

-- A column of two rows and two buckets of switch 11 or 12, of epoch 0.
abbrev pub column : (switch index : ℕ) → (upper lower : Bucket) → Column
column s j upper lower = record {
  key = key_of s 0 j;
  dims = record { rows = 2; width = 2 };
  cells = cells (upper ∷ lower ∷ []);
}

-- Of the first switch index 0, of the second one both.
abbrev pub eleven : Column
eleven = column 11 0 (bucket 100 5) (bucket 0 0)

abbrev pub twelve : Column
twelve = column 12 0 (bucket 100 6) (bucket 0 0)

abbrev pub twelve_too : Column
twelve_too = column 12 1 (bucket 9 9) (bucket 100 9)

pub record WorkedArrivals : Type 0 where
  -- a lost packet never, one of `twice` twice in a row; at a release and at the end the last one that is held comes first
  pub order : arrivals delayed ≡ 2 ∷ 2 ∷ 1 ∷ 0 ∷ 6 ∷ 5 ∷ 4 ∷ []
  pub held_so_far : map (held delayed) (range_with_len 0 8)
      ≡ [] ∷ (0 ∷ []) ∷ (0 ∷ 1 ∷ []) ∷ (0 ∷ 1 ∷ []) ∷ [] ∷ [] ∷ (4 ∷ 5 ∷ []) ∷ (4 ∷ 5 ∷ []) ∷ []
  -- what was released once is not released again
  pub once : arrivals twice_released ≡ 0 ∷ 1 ∷ 2 ∷ []
  pub carried : picked to_two ≡ entry 2 1 1 0 0 ∷ entry 3 1 0 0 0 ∷ entry 4 1 1 0 1 ∷ entry 5 2 1 0 0 ∷ []
  -- the frozen column, with the name of its switch
  pub named : map (column_of to_two) (picked to_two) ≡ twelve ∷ eleven ∷ twelve_too ∷ twelve ∷ []
  pub cargos : map (cargo to_two (picked to_two)) (0 ∷ 3 ∷ 4 ∷ []) ≡ None ∷ Some eleven ∷ Some twelve_too ∷ []
  -- to the host of the flow, in order of arrival; the lost one brings nothing
  pub at_hosts : map (brought to_two (picked to_two)) (range_with_len 0 2)
      ≡ (eleven ∷ []) ∷ (twelve_too ∷ twelve ∷ []) ∷ []
  -- host after host in the order of declaration, not as they came
  pub at_all : brought_to_all to_two (picked to_two) ≡ eleven ∷ twelve_too ∷ twelve ∷ []
  pub more_hosts : map (λ h. length (brought two_hosts (picked two_hosts) h)) (range_with_len 0 2) ≡ 2 ∷ 1 ∷ []
  pub all_hosts : length (brought_to_all two_hosts (picked two_hosts)) ≡ 3
