-- What a scenario keeps.
use Rattle.std.specs.Prelude.{◌≤◌, length}
use Rattle.lg_model.specs.declared.limits.TheConstants.{MOST_TEXT_BYTES}
use Rattle.lg_model.specs.Scenario.{Scenario}
use Rattle.lg_model.specs.Keeping.{IsScenario}
use Rattle.scenario_parts.specs.Printed.{text_of}

-- The parts make a scenario, and their text is no longer than a text may be.
pub record IsWhole (w : Scenario) : Type 0 where
  pub scenario : IsScenario w
  pub short : length (text_of w) ≤ MOST_TEXT_BYTES
