use Rattle.std.proofs.Common.{arith, length, ap}
use Rattle.lg_model.specs.Keeping.{IsHost}
use Rattle.lg_model.proofs.EachLemmas.{each_more_item, all_found}
use Rattle.scenario_parts.proofs.fits.hosts_fit.Goals as goal

pub loop-host-preserved : goal.loop-host-preserved
loop-host-preserved c = each_more_item IsHost c.args.hosts.now c.loop-host.host-index c.host-item.result c.loop-host-test.true c.host-item.is
    c.loop-host.invariant
    (record {
      name = rw (← c.host-item.is) at (c.requires c.loop-host.host-index c.host-item.result c.loop-host-test.true);
      few_letters = omega (arith, c.if-items-gt-MOST_LETTERS.false, ap length c.items.ensures);
    })

pub returns : goal.returns
returns c = all_found IsHost c.args.hosts.now c.loop-host.host-index c.loop-host-test.false c.loop-host.invariant
