use Rattle.std.proofs.Common.{◌<◌}
use Rattle.lg_model.proofs.EachLemmas.{each_more_item, each_done}
use Rattle.lg_model.proofs.ranges.host_ranges.Goals as goal

pub loop-host-preserved : goal.loop-host-preserved
loop-host-preserved c = each_more_item (λ h. h.name < 65536) c.args.hosts.now c.loop-host.host-index c.host-item.result c.loop-host-test.true c.host-item.is c.loop-host.invariant c.host_range.ensures

pub returns : goal.returns
returns c = each_done (λ h. h.name < 65536) c.args.hosts.now c.loop-host.host-index c.loop-host-test.false c.loop-host.invariant
