use Rattle.std.specs.Prelude.{◌<◌, ◌+◌, length}
use Rattle.std.specs.List.{flat_map, range_with_len}
use Rattle.std.proofs.Common.{◌∙◌, sym, ap, arith}
use Rattle.std.proofs.lemmas.List.{length-append}
use Rattle.std.proofs.Math.Facts.{Fits-of_lt}
use Rattle.lg_model.specs.Carrying.{picked}
use Rattle.lg_model.specs.Arriving.{brought}
use Rattle.guardian_run.proofs.Keeping.{brought_more}
use Rattle.guardian_run.proofs.Places.{came_to, places_len, few_came}
use Rattle.guardian_run.proofs.demo.arrived.Goals as goal

pub loop-at-preserved : goal.loop-at-preserved
loop-at-preserved c =
    let w = c.args.scenario.now in
    let at = c.loop-at.at in
    let inside : at < length w.hosts = omega (arith, c.loop-at-test.true, ap length c.hosts-hosts.ensures.value) in
    let came = came_to w c.args.arrivals.now c.arrived.result.now at c.requires inside c.arrived.ensures in
    record {
      count =
          (λ j. c.loop-at.invariant.count j + places_len w c.args.arrivals.now.kept c.arrived.result.now at came j)
          ∙ sym (ap length (brought_more w at) ∙ length-append (flat_map (brought w (picked w)) (range_with_len 0 at)) (brought w (picked w) at));
      few = omega (
        arith,
        c.loop-at.invariant.few,
        few_came w c.args.arrivals.now c.arrived.result.now at c.hosts-hosts.ensures.fits.steps.few_packets c.requires inside c.arrived.ensures,
      );
    }

pub overflow_add-count : goal.overflow_add-count
overflow_add-count c =
    let w = c.args.scenario.now in
    let low : c.loop-at.at < 64 = omega (arith, c.loop-at-test.true, ap length c.hosts-hosts.ensures.value, c.hosts-hosts.ensures.fits.hosts.few) in
    let inside : c.loop-at.at < length w.hosts = omega (arith, c.loop-at-test.true, ap length c.hosts-hosts.ensures.value) in
    let few = few_came w c.args.arrivals.now c.arrived.result.now c.loop-at.at c.hosts-hosts.ensures.fits.steps.few_packets c.requires inside c.arrived.ensures in
    Fits-of_lt (omega (arith, low, c.loop-at.invariant.few, few))
