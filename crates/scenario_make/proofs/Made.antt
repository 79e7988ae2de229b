-- The parts of generated scenarios make a scenario.
use Rattle.std.specs.Prelude.{◌≡◌, ℕ, List, Ok}
use Rattle.std.proofs.Common.{ap, subst, ◌∙◌}
use Rattle.lg_model.specs.declared.scenario.Pick.TheVariants.{Turns}
use Rattle.lg_model.specs.declared.scenario.HostLine.{HostLine}
use Rattle.lg_model.specs.declared.scenario.Flow.{Flow}
use Rattle.lg_model.specs.declared.scenario.Step.{Step}
use Rattle.lg_model.specs.declared.scenario.Ask.{Ask}
use Rattle.lg_model.specs.Placing.{Shape}
use Rattle.scenario_parts.specs.Printed.{text_of}
use Rattle.scenario_text.specs.Text.{reading}
use Rattle.scenario_text.specs.New.{parts_of, IsUnsaid}
use Rattle.scenario_text.proofs.InRangeLemmas.{whole_in_range}
use Rattle.scenario_make.specs.Generator.{generated, generated_shape, generated_hosts, generated_switches, generated_flows, generated_steps, generated_asks}
use Rattle.scenario_make.specs.Generator.{IsGenerated}

module _ (n : ℕ) (shape : Shape) (hosts : List HostLine) (switches : List ℕ) (flows : List Flow) (steps : List Step) (asks : List Ask)
    (shape_is : shape ≡ generated_shape n) (hosts_is : hosts ≡ generated_hosts) (switches_is : switches ≡ generated_switches)
    (flows_is : flows ≡ generated_flows) (steps_is : steps ≡ generated_steps n) (asks_is : asks ≡ generated_asks) where
  pub made : parts_of shape Turns hosts switches flows steps asks ≡ generated n
  made =
      ap (λ x. parts_of x Turns hosts switches flows steps asks) shape_is ∙ ap (λ x. parts_of (generated_shape n) Turns x switches flows steps asks) hosts_is
      ∙ ap (λ x. parts_of (generated_shape n) Turns generated_hosts x flows steps asks) switches_is
      ∙ ap (λ x. parts_of (generated_shape n) Turns generated_hosts generated_switches x steps asks) flows_is
      ∙ ap (λ x. parts_of (generated_shape n) Turns generated_hosts generated_switches generated_flows x asks) steps_is
      ∙ ap (λ x. parts_of (generated_shape n) Turns generated_hosts generated_switches generated_flows (generated_steps n) x) asks_is

  pub never_unsaid : IsGenerated n → reading (text_of (generated n)) ≡ Ok (generated n) → IsUnsaid (parts_of shape Turns hosts switches flows steps asks) → ⊥
  never_unsaid is said unsaid = subst IsUnsaid made unsaid (whole_in_range (generated n) is.whole) (generated n) said
