use Rattle.std.proofs.Common.{sym, ◌∙◌}
use Rattle.lg_model.specs.declared.scenario.HostLine.{HostLine}
use Rattle.scenario_parts.proofs.ApartLemmas.{things_more, things_not, things_done}
use Rattle.scenario_parts.proofs.apart.are_hosts_apart.Goals as goal

pub returns-then-has_host : goal.returns-then-has_host
returns-then-has_host c = things_not (λ (x : HostLine). x.name) c.args.hosts.now c.loop-i.i c.index-hosts-i.result c.loop-i-test.true
    (sym c.has_host.ensures ∙ c.if-has_host.true)

pub loop-i-preserved : goal.loop-i-preserved
loop-i-preserved c = things_more (λ (x : HostLine). x.name) c.args.hosts.now c.loop-i.i c.index-hosts-i.result c.loop-i-test.true c.loop-i.invariant
    (sym c.has_host.ensures ∙ c.if-has_host.false)

pub returns : goal.returns
returns c = things_done (λ (x : HostLine). x.name) c.args.hosts.now c.loop-i.i c.loop-i-test.false c.loop-i.invariant
