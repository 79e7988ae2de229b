use Rattle.std.proofs.Common.{arith}
use Rattle.scenario_lines.specs.Draft.{view}
use Rattle.scenario_lines.specs.declared.section.Section.TheVariants.{Declarations}
use Rattle.scenario_lines.proofs.KeepingLemmas.{picked, before_pick}
use Rattle.scenario_lines.proofs.WeightLemmas.{pick_weighs}
use Rattle.scenario_lines.proofs.draft.Draft.pick.Goals as goal

pub returns-clause-fits : goal.returns-clause-fits
returns-clause-fits c = picked (view c.args.self.now) c.in_ok-pick.pick Declarations c.requires.fits
    (before_pick c.args.self.now.section c.requires.section) c.in_ok-pick.ensures.bound

pub returns-clause-printed_len : goal.returns-clause-printed_len
returns-clause-printed_len c =
    omega (arith, pick_weighs (view c.args.self.now) c.in_ok-pick.pick c.requires.section, c.in_ok-pick.ensures.taken, c.in_ok-end_field.ensures.taken)
