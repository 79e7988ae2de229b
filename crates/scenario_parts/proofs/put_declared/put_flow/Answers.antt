use Rattle.std.proofs.Common.{◌∷◌, [], length}
use Rattle.std.specs.Prelude.{codes}
use Rattle.std.specs.Fmt.{decimal}
use Rattle.scenario_lines.specs.Spelling.{flow_words, key_parts, path_words}
use Rattle.scenario_parts.proofs.PrintLemmas.{two_parts, with_end, path_within}
use Rattle.scenario_parts.proofs.put_declared.put_flow.Goals as goal

pub put_flow_back-requires : goal.put_flow_back-requires
put_flow_back-requires g c = rw c.items.ensures (path_within (length c.args.switches.now) c.args.flow.now.path c.requires.path)

pub returns : goal.returns
returns g c =
    let two = two_parts (g.T.TextOut.kind c.args.out.now) (g.T.TextOut.kind c.put_flow_front.new.out) (g.T.TextOut.kind c.put_flow_back.new.out)
    (codes "flow") (decimal c.args.flow.now.name ∷ key_parts c.args.flow.now.key [])
    (codes "host" ∷ decimal c.host_name-host.result ∷ codes "path" ∷ path_words c.args.switches.now c.items.result.now) c.in_ok-put_flow_front.ensures
    c.in_ok-put_flow_back.ensures in
    let text = rw c.items.ensures at (rw c.host_name-host.ensures at two) in
    with_end (g.T.TextOut.kind c.args.out.now) (g.T.TextOut.kind c.put_flow_back.new.out) (g.T.TextOut.kind c.put_bytes.new.out)
    (flow_words c.args.hosts.now c.args.switches.now c.args.flow.now) text c.in_ok-put_bytes.ensures
