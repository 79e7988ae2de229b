use Rattle.std.proofs.Common.{◌≡◌, take}
use Rattle.std.specs.List.{flat_map}
use Rattle.scenario_parts.specs.Printed.{link_text}
use Rattle.text_out.specs.Growing.{grown}
use Rattle.scenario_parts.proofs.put_declared.put_links.Given as goal

abbrev pub invariant-loop-host : goal.invariant-loop-host
invariant-loop-host g l = g.T.TextOut.kind l.out ≡ grown (g.T.TextOut.kind l.fn.out) (flat_map link_text (take l.host-index l.hosts))
