use Rattle.std.proofs.Common.{◌≡◌, take}
use Rattle.scenario_lines.specs.Spelling.{flow_words}
use Rattle.scenario_parts.specs.Printed.{lines_text}
use Rattle.text_out.specs.Growing.{grown}
use Rattle.scenario_parts.proofs.put_declared.put_flows.Given as goal

abbrev pub invariant-loop-flow : goal.invariant-loop-flow
invariant-loop-flow g l = g.T.TextOut.kind l.out ≡ grown (g.T.TextOut.kind l.fn.out) (lines_text (flow_words l.hosts l.switches) (take l.flow-index l.flows))
