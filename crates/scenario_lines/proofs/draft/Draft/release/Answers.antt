use Rattle.std.proofs.Common.{arith}
use Rattle.scenario_lines.specs.Draft.{view}
use Rattle.lg_model.specs.declared.scenario.Step.TheVariants.{Release}
use Rattle.scenario_lines.proofs.KeepingLemmas.{step_more}
use Rattle.scenario_lines.proofs.WeightLemmas.{open_release, step_weighs}
use Rattle.scenario_lines.proofs.draft.Draft.release.Goals as goal

pub returns-clause-fits : goal.returns-clause-fits
returns-clause-fits c = step_more (view c.args.self.now) c.push.new.self.items Release c.requires.fits tt c.in_ok-push.ensures.items
    (omega (arith, c.requires.fits.scenario.steps.few_packets)) (λ i lt. omega (arith, c.requires.fits.scenario.steps.few_ends i lt))

pub returns-clause-printed_len : goal.returns-clause-printed_len
returns-clause-printed_len c =
    omega (
      arith,
      step_weighs (view c.args.self.now) c.push.new.self.items Release
          (open_release c.args.self.now.section c.requires.section) c.in_ok-push.ensures.items,
    )
