use Rattle.std.proofs.Common.{sym}
use Rattle.scenario_lines.proofs.IndexLemmas.{found_flow, other_flow, past_flows, past_table}
use Rattle.scenario_lines.proofs.index.find_flow.Goals as goal

pub returns-then-flows-index-clause-value : goal.returns-then-flows-index-clause-value
returns-then-flows-index-clause-value c =
    sym (found_flow c.args.flows.now c.args.positions.now c.args.name c.index-flows-index.result c.requires c.if-index-flows.true c.if-flows-index.true)

pub returns-else-flows-index-clause-value : goal.returns-else-flows-index-clause-value
returns-else-flows-index-clause-value c =
    sym (other_flow c.args.flows.now c.args.positions.now c.args.name c.index-flows-index.result c.requires c.if-index-flows.true c.if-flows-index.false)

pub returns-else-index-flows-clause-value : goal.returns-else-index-flows-clause-value
returns-else-index-flows-clause-value c = sym (past_flows c.args.flows.now c.args.positions.now c.args.name c.requires c.if-index-flows.false)

pub returns-else-name_at-positions-clause-value : goal.returns-else-name_at-positions-clause-value
returns-else-name_at-positions-clause-value c = sym (past_table c.args.flows.now c.args.positions.now c.args.name c.requires c.if-name_at-positions.false)
