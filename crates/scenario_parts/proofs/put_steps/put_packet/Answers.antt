use Rattle.std.proofs.Common.{◌∷◌, ◌++◌, map}
use Rattle.std.specs.Prelude.{codes}
use Rattle.std.specs.Fmt.{decimal}
use Rattle.scenario_lines.specs.Spelling.{burst_words, fate_words}
use Rattle.scenario_parts.proofs.PrintLemmas.{two_parts}
use Rattle.scenario_parts.proofs.put_steps.put_packet.Goals as goal

pub returns : goal.returns
returns g c = two_parts (g.T.TextOut.kind c.args.out.now) (g.T.TextOut.kind c.put_packet_front.new.out) (g.T.TextOut.kind c.put_tail.new.out)
    (codes "packet") (decimal c.args.name ∷ decimal c.args.size ∷ map decimal c.args.delays.now)
    (burst_words c.args.burst ++ fate_words c.args.fate) c.in_ok-put_packet_front.ensures c.in_ok-put_tail.ensures
