use Rattle.std.proofs.Common.{◌≡◌, take}
use Rattle.scenario_lines.specs.Spelling.{switch_words}
use Rattle.scenario_parts.specs.Printed.{lines_text}
use Rattle.text_out.specs.Growing.{grown}
use Rattle.scenario_parts.proofs.put_declared.put_switches.Given as goal

abbrev pub invariant-loop-name : goal.invariant-loop-name
invariant-loop-name g l = g.T.TextOut.kind l.out ≡ grown (g.T.TextOut.kind l.fn.out) (lines_text switch_words (take l.name-index l.switches))
