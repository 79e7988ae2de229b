use Rattle.std.proofs.Common.{◌≡◌, ◌≤◌, List, ℕ, [], length, subst, sym, ap, ◌∙◌, Ok}
use Rattle.lg_model.specs.Keeping.{IsScenario}
use Rattle.lg_model.specs.Scenario.{Scenario, scenario_of}
use Rattle.scenario_text.specs.Text.{reading}
use Rattle.scenario_parts.specs.Printed.{text_of}
use Rattle.text_out.specs.Growing.{Bytes, grown}
use Rattle.text_out.proofs.Putting.{bytes_are}
use Rattle.scenario_text.proofs.PrintedTextIsRead.{printed}
use Rattle.scenario_text.proofs.printing.print.Goals as goal

-- The text of parts that are put after nothing.
all_is : (before after : List ℕ) (parts w : Scenario) → Bytes after ≡ grown (Bytes before) (text_of parts) → before ≡ [] → parts ≡ w → after ≡ text_of w
all_is before after parts w put none same = bytes_are before after (text_of parts) put ∙ rw none (ap text_of same)

pub put_parts-requires : goal.put_parts-requires
put_parts-requires c = subst (λ (w : Scenario). IsScenario w) (sym c.parts.ensures.value) c.parts.ensures.whole.scenario

pub returns-clause-text : goal.returns-clause-text
returns-clause-text c =
    all_is c.new-out.result.items c.put_parts.new.out.items (scenario_of c.parts.result.now) c.args.scenario.now
    c.in_ok-put_parts.ensures c.new-out.ensures.items c.parts.ensures.value

pub returns-clause-again : goal.returns-clause-again
returns-clause-again c =
    let text = all_is c.new-out.result.items c.put_parts.new.out.items (scenario_of c.parts.result.now) c.args.scenario.now
    c.in_ok-put_parts.ensures c.new-out.ensures.items c.parts.ensures.value in
    subst (λ (xs : List ℕ). reading xs ≡ Ok c.args.scenario.now) (sym text) (printed c.args.scenario.now c.parts.ensures.whole)

pub returns-clause-short : goal.returns-clause-short
returns-clause-short c =
    let text = all_is c.new-out.result.items c.put_parts.new.out.items (scenario_of c.parts.result.now) c.args.scenario.now
    c.in_ok-put_parts.ensures c.new-out.ensures.items c.parts.ensures.value in
    subst (λ (xs : List ℕ). length xs ≤ 16777216) (sym text) c.parts.ensures.whole.short
