use Rattle.std.proofs.Common.{◌≡◌, take}
use Rattle.scenario_lines.specs.Spelling.{step_words}
use Rattle.scenario_parts.specs.Printed.{lines_text}
use Rattle.text_out.specs.Growing.{grown}
use Rattle.scenario_parts.proofs.put_steps.put_steps.Given as goal

abbrev pub invariant-loop-step : goal.invariant-loop-step
invariant-loop-step g l = g.T.TextOut.kind l.out ≡ grown (g.T.TextOut.kind l.fn.out) (lines_text (step_words l.flows l.switches) (take l.step-index l.steps))
