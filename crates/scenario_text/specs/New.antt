-- The parts that are given to be a scenario.
use Rattle.std.specs.Prelude.{◌≡◌, ℕ, List, Ok}
use Rattle.lg_model.specs.declared.scenario.Pick.{Pick}
use Rattle.lg_model.specs.declared.scenario.HostLine.{HostLine}
use Rattle.lg_model.specs.declared.scenario.Flow.{Flow}
use Rattle.lg_model.specs.declared.scenario.Step.{Step}
use Rattle.lg_model.specs.declared.scenario.Ask.{Ask}
use Rattle.lg_model.specs.Placing.{Shape}
use Rattle.lg_model.specs.Scenario.{Scenario}
use Rattle.scenario_parts.specs.Parts.{AreInRange}
use Rattle.scenario_parts.specs.Printed.{text_of}
use Rattle.scenario_text.specs.Text.{reading}

-- These parts.
abbrev pub parts_of : Shape → Pick → List HostLine → List ℕ → List Flow → List Step → List Ask → Scenario
parts_of shape pick hosts switches flows steps asks =
    record { shape = shape; pick = pick; hosts = hosts; switches = switches; flows = flows; steps = steps; asks = asks }

-- A position in the parts is out of range, or their text is no scenario text.
abbrev pub IsUnsaid : Scenario → Type 0
IsUnsaid w = AreInRange w → (q : Scenario) → reading (text_of w) ≡ Ok q → ⊥
