use Rattle.std.proofs.lemmas.Bool.Decides.{not_from_Decides}
use Rattle.scenario_text.specs.New.{parts_of}
use Rattle.scenario_text.proofs.ReadTextFits.{only_whole}
use Rattle.scenario_text.proofs.InRangeLemmas.{whole_in_range}
use Rattle.scenario_text.proofs.PrintedTextIsRead.{printed}
use Rattle.scenario_text.proofs.scenario.Scenario.new.Goals as goal

pub returns-then-not-is_whole-clause-none : goal.returns-then-not-is_whole-clause-none
returns-then-not-is_whole-clause-none c =
    let w = parts_of c.args.shape c.args.pick c.args.hosts.items c.args.switches.items c.args.flows.items c.args.steps.items c.args.asks.items in
    λ positions q reads. not_from_Decides c.is_whole.result c.is_whole.ensures.whole c.if-not-is_whole.true
    (only_whole w q c.is_whole.ensures.ranges positions reads)

pub returns-clause-said : goal.returns-clause-said
returns-clause-said c =
    let w = parts_of c.args.shape c.args.pick c.args.hosts.items c.args.switches.items c.args.flows.items c.args.steps.items c.args.asks.items in
    let whole = c.is_whole.ensures.whole.0 c.if-not-is_whole.false in
    (whole_in_range w whole, printed w whole)
