-- The carry list with the names of its switches.
use Rattle.std.specs.Prelude.{◌≡◌, List, All}
use Rattle.lg_model.specs.Scenario.{Scenario}
use Rattle.lg_model.specs.Carrying as model
use Rattle.path_sim.specs.declared.carry.Carry.{Carry}
use Rattle.path_sim.specs.Parts.{carried_are, IsNamed}

-- These entries are that carry list, each with the name of its switch.
pub record IsNoted (w : Scenario) (cs : List model.Carry) (carried : List Carry) : Type 0 where
  pub is : carried_are carried ≡ cs
  pub names : All (IsNamed w) carried
