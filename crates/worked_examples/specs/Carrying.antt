-- Which lists of carried columns are allowed, and which not, by cases.
use Rattle.std.specs.Prelude.{[], ◌∷◌}
use Rattle.lg_model.specs.declared.scenario.Fate.TheVariants.{Straight}
use Rattle.lg_model.specs.declared.scenario.Pick.TheVariants.{Turns}
use Rattle.lg_model.specs.declared.scenario.Step.TheVariants.{EndAll}
use Rattle.lg_model.specs.Scenario.{Scenario}
use Rattle.lg_model.specs.Carrying.{IsAllowed}
use Rattle.lg_model.specs.Joining.{IsFrozen, IsSwitch}
use Rattle.worked_examples.specs.Networks.{bucket, key_of, cells, network, both}
use Rattle.worked_examples.specs.Pickers.{entry}

-- A packet, an end of both switches, and two packets more, each by both switches.
abbrev pub carrying : Scenario
carrying = network Turns 2 (both 100 5 6 1 Straight ∷ EndAll ∷ both 1 1 1 2 Straight ∷ []) []

-- Nothing has ended.
abbrev pub silent : Scenario
silent = network Turns 2 (both 100 5 6 1 Straight ∷ []) []

pub record WorkedCarrying : Type 0 where
  -- at the first hop or at the last one, whatever the index
  pub some : IsAllowed carrying (entry 1 1 0 0 1 ∷ entry 2 2 1 0 0 ∷ [])
  pub none : IsAllowed silent []
  -- a packet carries one
  pub two_at_once : IsAllowed carrying (entry 1 1 0 0 0 ∷ entry 1 2 1 0 0 ∷ entry 2 2 1 0 0 ∷ []) → ⊥
  pub backwards : IsAllowed carrying (entry 2 2 1 0 0 ∷ entry 1 2 1 0 0 ∷ []) → ⊥
  -- of the epoch that its switch ended last, of a switch that the packet meets at that hop, below the width
  pub other_epoch : IsAllowed carrying (entry 1 2 1 1 0 ∷ entry 2 2 1 0 0 ∷ []) → ⊥
  pub too_early : IsAllowed carrying (entry 0 2 1 0 0 ∷ entry 1 2 1 0 0 ∷ entry 2 2 1 0 0 ∷ []) → ⊥
  pub other_hop : IsAllowed carrying (entry 1 2 0 0 0 ∷ entry 2 2 1 0 0 ∷ []) → ⊥
  pub past_width : IsAllowed carrying (entry 1 2 1 0 2 ∷ entry 2 2 1 0 0 ∷ []) → ⊥
  -- a packet that comes to its last hop carries one
  pub missing : IsAllowed carrying (entry 1 2 1 0 0 ∷ []) → ⊥
  -- a column is of its switch, by name, of an epoch that ended, and has the counters that were frozen
  pub frozen : IsFrozen carrying (key_of 12 0 1) (cells (bucket 0 0 ∷ bucket 100 6 ∷ []))
  pub by_position : IsSwitch carrying 1 1 → ⊥
  pub not_ended : IsFrozen carrying (key_of 12 1 1) (cells (bucket 0 0 ∷ bucket 2 1 ∷ [])) → ⊥
  pub other_index : IsFrozen carrying (key_of 12 0 2) (cells (bucket 0 0 ∷ bucket 0 0 ∷ [])) → ⊥
