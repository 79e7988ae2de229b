use Rattle.scenario_make.specs.Generator.{generated}
use Rattle.scenario_make.proofs.Made.{never_unsaid}
use Rattle.scenario_make.proofs.generator.make.Goals as goal

pub unreachable-requires : goal.unreachable-requires
unreachable-requires c =
    let n = c.args.rounds in
    let is = c.generated_are_scenarios.ensures n c.requires.few in
    never_unsaid n c.shape.result c.in_ok-hosts.hosts.items c.in_ok-switches.switches.items c.in_ok-flows.flows.items c.in_ok-steps.steps.items
    c.in_ok-asks.asks.items c.shape.ensures c.in_ok-hosts.ensures c.in_ok-switches.ensures c.in_ok-flows.ensures c.in_ok-steps.ensures
    c.in_ok-asks.ensures is (c.printed_is_read.ensures (generated n) is.whole) c.in-None.ensures.none
