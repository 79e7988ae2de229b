use Rattle.lg_model.specs.Scenario.{Scenario, scenario_of}
use Rattle.scenario_parts.specs.Printed.{first_text, declared_text, happening_text}
use Rattle.scenario_parts.proofs.PrintLemmas.{in_three}
use Rattle.scenario_parts.proofs.printing.put_parts.Goals as goal

pub returns : goal.returns
returns g c =
    let w : Scenario = scenario_of c.args.parts.now in
    in_three (g.T.TextOut.kind c.args.out.now) (g.T.TextOut.kind c.put_first_lines.new.out) (g.T.TextOut.kind c.put_declarations.new.out)
    (g.T.TextOut.kind c.put_happenings.new.out) (first_text w) (declared_text w) (happening_text w)
    c.in_ok-put_first_lines.ensures c.in_ok-put_declarations.ensures c.in_ok-put_happenings.ensures
