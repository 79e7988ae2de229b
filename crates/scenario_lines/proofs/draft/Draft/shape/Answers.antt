use Rattle.std.proofs.Common.{arith, ap}
use Rattle.lg_model.specs.Placing.{Shape, IsShape}
use Rattle.scenario_lines.specs.Draft.{view}
use Rattle.scenario_lines.specs.Spelling.{size, shape_line_words}
use Rattle.scenario_lines.specs.declared.section.Section.TheVariants as sections
use Rattle.scenario_lines.proofs.KeepingLemmas.{shaped, before_shape}
use Rattle.scenario_lines.proofs.WeightLemmas.{shape_weighs}
use Rattle.scenario_lines.proofs.draft.Draft.shape.Goals as goal

pub returns-clause-fits : goal.returns-clause-fits
returns-clause-fits c =
    let shape : Shape = record { rows = c.in_ok-rows.rows; width = c.in_ok-width.width; hash = c.in_ok-hash.hash } in
    let few = rw c.from.ensures at c.in_ok-rows.ensures.bound in
    let narrow = rw c.from-2.ensures at c.in_ok-width.ensures.bound in
    let fits : IsShape shape.rows shape.width =
    record { some_rows = c.in_ok-rows.ensures.least; few_rows = few; some_width = c.in_ok-width.ensures.least; few_width = narrow } in
    rw c.shape_of-self.ensures
    (shaped (view c.args.self.now) shape sections.Pick c.requires.fits
    (before_shape c.args.self.now.section c.requires.section) fits c.in_ok-hash.ensures.bound)

pub returns-clause-printed_len : goal.returns-clause-printed_len
returns-clause-printed_len c =
    let weighs = shape_weighs (view c.args.self.now) c.shape_of-self.result c.requires.section in
    let same = ap (λ (s : Shape). size (shape_line_words s)) c.shape_of-self.ensures in
    omega (arith, weighs, same, c.in_ok-rows.ensures.taken, c.in_ok-width.ensures.taken, c.in_ok-hash.ensures.taken, c.in_ok-end_field.ensures.taken)
