use Rattle.std.proofs.Common.{arith}
use Rattle.scenario_lines.specs.Draft.{view}
use Rattle.scenario_lines.proofs.WeightLemmas.{done_weighs}
use Rattle.scenario_lines.proofs.draft.Draft.done.Goals as goal

pub returns-clause-printed_len : goal.returns-clause-printed_len
returns-clause-printed_len c = omega (arith, done_weighs (view c.args.self.now) c.requires.section)
