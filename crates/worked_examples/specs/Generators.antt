-- Generated scenarios of more than one round, by computation.
use Rattle.std.specs.Prelude.{◌≡◌, [], ◌∷◌, map, length}
use Rattle.std.specs.List.{range_with_len}
use Rattle.lg_model.specs.declared.scenario.Fate.TheVariants.{Straight, Lost, Twice, Late}
use Rattle.lg_model.specs.declared.scenario.Hash.TheVariants.{Seed}
use Rattle.lg_model.specs.declared.scenario.Step.TheVariants.{Packet}
use Rattle.lg_model.specs.Scenario.{packet_count}
use Rattle.scenario_make.specs.Generator.{size_of, delay_of, fate_of, generated_shape, generated_burst, generated_end}
use Rattle.scenario_make.specs.Generator.{generated_steps}

pub record WorkedGenerators : Type 0 where
  pub shape : generated_shape 25 ≡ record { rows = 4; width = 16; hash = Seed 25 }
  -- of 16 bursts three have a fate of their own
  pub fates : map fate_of (range_with_len 1 17)
      ≡ Straight ∷ Straight ∷ Lost 1 ∷ Straight ∷ Straight ∷ Straight ∷ Twice ∷ Straight
      ∷ Straight ∷ Straight ∷ Late ∷ Straight ∷ Straight ∷ Straight ∷ Straight ∷ Straight ∷ Straight ∷ []
  -- a size is 64 to 1500 bytes, and begins again
  pub sizes : map size_of (1 ∷ 38 ∷ 39 ∷ 1437 ∷ []) ≡ 101 ∷ 1470 ∷ 70 ∷ 64 ∷ []
  pub delays : map (delay_of 980 8) (1 ∷ 2 ∷ []) ≡ 998 ∷ 8 ∷ []
  -- the third burst of the second round: its number is 11
  pub burst : generated_burst 1 3 ≡ Packet 2 471 (14 ∷ 24 ∷ 34 ∷ []) 20 Late
  -- an end after each tenth round and after the last one, and no other
  pub ends : map (λ r. length (generated_end 25 r)) (0 ∷ 8 ∷ 9 ∷ 10 ∷ 19 ∷ 20 ∷ 23 ∷ 24 ∷ [])
      ≡ 0 ∷ 0 ∷ 1 ∷ 0 ∷ 1 ∷ 0 ∷ 0 ∷ 1 ∷ []
  pub one_end : map (λ r. length (generated_end 20 r)) (18 ∷ 19 ∷ []) ≡ 0 ∷ 1 ∷ []
  pub steps : length (generated_steps 3) ≡ 33
  pub packets : packet_count (generated_steps 3) ≡ 736
