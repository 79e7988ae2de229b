use Rattle.std.proofs.Common.{◌≡◌, take}
use Rattle.scenario_lines.specs.Spelling.{host_words}
use Rattle.scenario_parts.specs.Printed.{lines_text}
use Rattle.text_out.specs.Growing.{grown}
use Rattle.scenario_parts.proofs.put_declared.put_hosts.Given as goal

abbrev pub invariant-loop-host : goal.invariant-loop-host
invariant-loop-host g l = g.T.TextOut.kind l.out ≡ grown (g.T.TextOut.kind l.fn.out) (lines_text host_words (take l.host-index l.hosts))
