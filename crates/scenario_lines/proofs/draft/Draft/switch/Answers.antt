use Rattle.std.proofs.Common.{arith}
use Rattle.scenario_lines.specs.Draft.{view}
use Rattle.scenario_lines.proofs.WeightLemmas.{switch_weighs}
use Rattle.scenario_lines.proofs.draft.Draft.switch.Goals as goal

pub returns-clause-printed_len : goal.returns-clause-printed_len
returns-clause-printed_len c =
    omega (
      arith,
      switch_weighs (view c.args.self.now) c.push.new.self.items c.in_ok-name.name c.requires.fits c.in_ok-push.ensures.items,
      c.in_ok-name.ensures.taken,
    )
