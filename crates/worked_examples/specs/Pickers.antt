-- Which packets carry which columns, by computation. The random words and what is chosen by them come from a program of
-- its own, in another language.
use Rattle.std.specs.Prelude.{◌≡◌, ℕ, [], ◌∷◌, ◌++◌, map, replicate, Some, None}
use Rattle.std.specs.List.{range_with_len}
use Rattle.lg_model.specs.declared.scenario.Fate.TheVariants.{Straight, Lost}
use Rattle.lg_model.specs.declared.scenario.Pick.{Pick}
use Rattle.lg_model.specs.declared.scenario.Pick.TheVariants.{Turns, Chance}
use Rattle.lg_model.specs.declared.scenario.Step.TheVariants.{End, EndAll}
use Rattle.lg_model.specs.Scenario.{Scenario}
use Rattle.lg_model.specs.Trace.{meetings}
use Rattle.lg_model.specs.Carrying.{Carry, Offer, hops_left, times_of, turns_answer, chance_seed, word_of, candidate}
use Rattle.lg_model.specs.Carrying.{chance_answer, chosen, picked}
use Rattle.worked_examples.specs.Networks.{network, both, second}

-- Three indexes, the first two put out once and the third never.
abbrev pub three : Offer
three = record { width = 3; put = 4; times = 1 ∷ 1 ∷ 0 ∷ [] }

abbrev pub entry : (packet hop switch_at epoch index : ℕ) → Carry
entry p h s e j = record { packet = p; hop = h; switch_at = s; epoch = e; index = j }

-- Five packets by both switches, with an end of all epochs before them and one after the third; a lost packet, which
-- carries all the same; and a packet of the second switch alone.
abbrev pub busy : Pick → Scenario
busy pick = network pick 2 (EndAll ∷ both 100 5 5 3 Straight ∷ EndAll ∷ both 100 5 5 1 (Lost 1)
    ∷ both 100 5 5 1 Straight ∷ second 7 7 1 Straight ∷ []) []

-- Only the second switch has ended an epoch.
abbrev pub one_ended : Scenario
one_ended = network Turns 2 (End 1 ∷ both 100 5 5 2 Straight ∷ []) []

-- Four packets by both switches.
abbrev pub by_chance : Scenario
by_chance = network (Chance 7) 3 (EndAll ∷ both 100 5 5 2 Straight ∷ []) []

pub record WorkedPickers : Type 0 where
  -- the hops left count the one that the packet is at
  pub left : map hops_left (meetings by_chance) ≡ 2 ∷ 1 ∷ 2 ∷ 1 ∷ []
  -- an offer whose number the hops left divide, and the index by what was put out
  pub turns : map (λ a. turns_answer a 3 three) (range_with_len 0 5) ≡ Some 1 ∷ None ∷ None ∷ Some 1 ∷ None ∷ []
  pub turns_by_one : map (λ a. turns_answer a 1 three) (0 ∷ 1 ∷ 5 ∷ []) ≡ Some 1 ∷ Some 1 ∷ Some 1 ∷ []
  -- how often each index of that sketch was put out, and of no other switch or epoch
  pub put_out : times_of 2 0 2 (entry 0 1 0 0 1 ∷ entry 1 1 0 1 0 ∷ entry 2 2 1 1 1 ∷ entry 3 1 0 1 0 ∷ []) ≡ 2 ∷ 0 ∷ []
  -- by turns: an offer counts where nothing was given too; what was put out counts since the last end alone
  pub by_turns : picked (busy Turns)
      ≡ entry 0 1 0 0 0 ∷ entry 1 2 1 0 0 ∷ entry 2 1 0 0 1 ∷ entry 4 1 0 1 0 ∷ entry 5 1 1 1 0 ∷ []
  -- the first switch has nothing to give
  pub second_alone : picked one_ended ≡ entry 0 2 1 0 0 ∷ entry 1 2 1 0 1 ∷ []
  -- the seed of a switch: the number, the switch's name, and zeros
  pub seed : chance_seed 72623859790382856 2314 ≡ range_with_len 1 10 ++ replicate 22 0
  pub words : map (word_of 7 1) (0 ∷ 1 ∷ 3 ∷ []) ≡ 3909990497 ∷ 1680148722 ∷ 81478822 ∷ []
  -- word 0 of the second block, of a seed and a name whose bytes are all different
  pub second_block : word_of 1108101562373 772 17 ≡ 2028320588
  -- of two candidates the one that was put out less often, and the first where they are level
  pub level_first : candidate three 3 4 ≡ 0
  pub rarer_second : candidate three 0 2 ≡ 2
  pub rarer_first : candidate three 5 7 ≡ 2
  -- the first word decides whether, the other two which
  pub chance_gives : map (λ x. chance_answer 2 three x 4 3) (4 ∷ 3 ∷ []) ≡ Some 1 ∷ None ∷ []
  -- three words an offer: 3a, 3a + 1 and 3a + 2
  pub chosen_ones : map (λ a. chosen (Chance 7) 1 a 1 three) (range_with_len 0 4) ≡ Some 0 ∷ Some 2 ∷ Some 2 ∷ Some 1 ∷ []
  -- a whole run by chance: the stream of a switch is that of its name
  pub chance_run : picked by_chance ≡ entry 0 2 1 0 1 ∷ entry 1 1 0 0 2 ∷ []
