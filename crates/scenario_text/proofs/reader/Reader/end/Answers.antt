use Rattle.std.proofs.Common.{ap, sym, ◌∙◌, length, arith, false, Ok}
use Rattle.lg_model.specs.Scenario.{Scenario}
use Rattle.scenario_lines.specs.Draft.{view}
use Rattle.scenario_lines.specs.Line.{line_of}
use Rattle.scenario_text.specs.Text.{at_end}
use Rattle.scenario_text.proofs.LengthLemmas.{done_weighs}
use Rattle.scenario_text.proofs.ReaderLemmas.{stops}
use Rattle.scenario_text.proofs.reader.Reader.end.Goals as goal

pub returns-in-Err-Bad-clause-says : goal.returns-in-Err-Bad-clause-says
returns-in-Err-Bad-clause-says c =
    let refused = rw c.in-Err-Bad.field-0-is at c.in-Err-Bad.ensures.leaves in
    stops false c.args.self.line (view c.args.self.draft) c.args.self.pending.items c.requires.reader.unbroken
    ∙ ap (at_end c.args.self.line) (ap (line_of (view c.args.self.draft)) (sym c.deref.ensures.value) ∙ refused)

pub returns-then-is_done-clause-says : goal.returns-then-is_done-clause-says
returns-then-is_done-clause-says c =
    let e = stops false c.args.self.line (view c.args.self.draft) c.args.self.pending.items c.requires.reader.unbroken
    ∙ ap (at_end c.args.self.line) (ap (line_of (view c.args.self.draft)) (sym c.deref.ensures.value) ∙ c.in-Ok.ensures.leaves) in
    (rw (← c.if-is_done.ensures) at e) ∙ ap (λ (w : Scenario). Ok w) (sym c.scenario.ensures)

pub returns-else-is_done-clause-says : goal.returns-else-is_done-clause-says
returns-else-is_done-clause-says c =
    let e = stops false c.args.self.line (view c.args.self.draft) c.args.self.pending.items c.requires.reader.unbroken
    ∙ ap (at_end c.args.self.line) (ap (line_of (view c.args.self.draft)) (sym c.deref.ensures.value) ∙ c.in-Ok.ensures.leaves) in
    rw (← c.if-is_done.ensures) at e

pub scenario-requires-clause-short : goal.scenario-requires-clause-short
scenario-requires-clause-short c =
    omega (
      arith,
      done_weighs (view c.line.new.self) (sym c.if-is_done.ensures),
      c.in-Ok.ensures.printed_len,
      ap length c.deref.ensures.value,
      c.requires.short,
    )
