use Rattle.std.proofs.Common.{◌≡◌, take}
use Rattle.scenario_lines.specs.Spelling.{ask_words}
use Rattle.scenario_parts.specs.Printed.{lines_text}
use Rattle.text_out.specs.Growing.{grown}
use Rattle.scenario_parts.proofs.put_steps.put_asks.Given as goal

abbrev pub invariant-loop-ask : goal.invariant-loop-ask
invariant-loop-ask g l = g.T.TextOut.kind l.out ≡ grown (g.T.TextOut.kind l.fn.out) (lines_text (ask_words l.flows) (take l.ask-index l.asks))
