use Rattle.std.proofs.Common.{arith, length, ap}
use Rattle.scenario_lines.specs.Draft.{view}
use Rattle.scenario_lines.proofs.WeightLemmas.{started_weighs}
use Rattle.scenario_lines.proofs.draft.Draft.first.Goals as goal

pub returns-then-is-clause-printed_len : goal.returns-then-is-clause-printed_len
returns-then-is-clause-printed_len c = omega (arith, started_weighs (view c.args.self.now) c.requires.section, ap length (c.is.ensures.same c.if-is.true))
