use Rattle.std.proofs.Common.{◌∷◌, []}
use Rattle.std.specs.Prelude.{codes}
use Rattle.std.specs.Fmt.{decimal}
use Rattle.scenario_lines.specs.Whys.{why_text}
use Rattle.report_text.specs.Faults.{scenario_line}
use Rattle.report_text.proofs.Pieces.{in_pieces}
use Rattle.report_text.proofs.faults.put_scenario_line.Goals as goal

pub returns : goal.returns
unfolding scenario_line
returns c = rw c.from.ensures at (in_pieces c.args.out.now.items c.put_field.new.out.items c.put_why.new.out.items c.put_text.new.out.items
    (codes "guardian: scenario line ") (decimal c.from.result) (codes ": ") (why_text c.args.why) (10 ∷ [])
    c.in_ok-put_field.ensures c.in_ok-put_why.ensures c.in_ok-put_text.ensures)
