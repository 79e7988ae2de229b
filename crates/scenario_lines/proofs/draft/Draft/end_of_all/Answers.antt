use Rattle.std.proofs.Common.{arith, sym, lit<}
use Rattle.scenario_lines.specs.Draft.{view}
use Rattle.lg_model.specs.declared.scenario.Step.TheVariants.{EndAll}
use Rattle.scenario_lines.proofs.KeepingLemmas.{step_more, room_at}
use Rattle.scenario_lines.proofs.WeightLemmas.{open_end, step_weighs}
use Rattle.std.proofs.lemmas.Grind.{common_steps}
use Rattle.scenario_lines.proofs.draft.Draft.end_of_all.Goals as goal

pub returns-clause-fits : goal.returns-clause-fits
returns-clause-fits c = step_more (view c.args.self.now) c.push.new.self.items EndAll c.requires.fits tt c.in_ok-push.ensures.items
    (omega (arith, c.requires.fits.scenario.steps.few_packets))
    (λ i lt. omega (arith, room_at c.args.self.now.parts.steps.items c.len.result i (sym c.if-not-has_room.ensures) (omega (arith, lt, c.len.ensures))))

pub overflow_add-self : goal.overflow_add-self
overflow_add-self c = grind (arith, common_steps, c.args.self.now.ended 0 (lit< tt))

pub returns-clause-printed_len : goal.returns-clause-printed_len
returns-clause-printed_len c =
    omega (
      arith,
      step_weighs (view c.args.self.now) c.push.new.self.items EndAll
          (open_end c.args.self.now.section c.requires.section) c.in_ok-push.ensures.items,
    )
