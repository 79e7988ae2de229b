use Rattle.std.proofs.Common.{arith}
use Rattle.scenario_lines.proofs.IndexLemmas.{put}
use Rattle.scenario_lines.proofs.index.push_flow.Goals as goal

pub returns-clause-indexed : goal.returns-clause-indexed
returns-clause-indexed c =
    put c.args.flows.now.items c.push.new.self.items c.args.positions.now.items c.grow.new.positions.items c.args.flow c.len-index.result c.requires.indexed
    c.requires.fresh c.requires.few c.in_ok-push.ensures.items c.grow.ensures.kept (omega (arith, c.in_ok-grow.ensures.longer)) (omega arith)
