use Rattle.std.specs.Prelude.{List, ℕ, Ok}
use Rattle.std.proofs.Common.{ap, ◌∙◌, inr}
use Rattle.lg_model.specs.Scenario.{Scenario}
use Rattle.scenario_parts.specs.Printed.{text_of}
use Rattle.guardian_run.specs.Outcomes.{Outcome}
use Rattle.guardian_run.proofs.make.make.Goals as goal

abbrev output : List ℕ → Outcome
output text = Ok text

pub returns-clause-output : goal.returns-clause-output
returns-clause-output c = inr (ap output (c.in_ok-text.ensures.text ∙ ap (λ (w : Scenario). text_of w) c.in_ok-scenario.ensures))
