-- What the lines of a text have said so far.
use Rattle.std.specs.Prelude.{◌≡◌, false, []}
use Rattle.lg_model.specs.declared.scenario.Pick.TheVariants.{Turns}
use Rattle.lg_model.specs.declared.scenario.Hash.TheVariants.{Ports}
use Rattle.lg_model.specs.Scenario.{Scenario, scenario_of}
use Rattle.lg_model.specs.Keeping.{IsScenario}
use Rattle.scenario_lines.specs.declared.section.Section.{Section}
use Rattle.scenario_lines.specs.declared.section.Section.TheVariants as sections
use Rattle.scenario_lines.specs.Sections.{has_steps}
use Rattle.scenario_lines.specs.declared.draft.Draft.{Draft}

-- The section that the text is in, and the parts that were said so far.
pub record State : Type 0 where
  pub section : Section
  pub parts : Scenario

-- Nothing is declared. The shape is the least one until the second line says it, and switches pick by turns until the third line says
-- how.
abbrev pub no_parts : Scenario
no_parts = record { shape = record { rows = 1; width = 1; hash = Ports }; pick = Turns; hosts = []; switches = []; flows = []; steps = []; asks = [] }

-- Before the first line.
abbrev pub start : State
start = record { section = sections.Version; parts = no_parts }

-- What a draft says, without where it lies in memory.
abbrev pub view : Draft → State
view d = record { section = d.section; parts = scenario_of d.parts }

-- The parts so far keep what every scenario keeps, and no step comes before its section.
pub record IsDraft (s : State) : Type 0 where
  pub scenario : IsScenario s.parts
  pub no_steps : has_steps s.section ≡ false → s.parts.steps ≡ []

abbrev pub FitsSoFar : Draft → Type 0
FitsSoFar d = IsDraft (view d)
