use Rattle.std.specs.Prelude.{◌≡◌, ◌<◌, ◌+◌, ◌++◌, length, slice_index_or}
use Rattle.std.specs.List.{flat_map, range_with_len}
use Rattle.std.proofs.Common.{◌∙◌, sym, ap, arith}
use Rattle.std.proofs.lemmas.List.{length-append}
use Rattle.std.proofs.Math.Facts.{Fits-of_lt}
use Rattle.lg_model.specs.declared.scenario.HostLine.{HostLine}
use Rattle.lg_model.specs.Carrying.{picked}
use Rattle.lg_model.specs.Arriving.{brought}
use Rattle.guardian_run.specs.Outputs.{host_lines}
use Rattle.guardian_run.proofs.Keeping.{lines_more, brought_more, host_known}
use Rattle.guardian_run.proofs.Places.{came_to, places_len, few_came}
use Rattle.guardian_run.proofs.capture.capture_lines.Goals as goal

pub loop-at-preserved : goal.loop-at-preserved
loop-at-preserved c =
    let w = c.args.scenario.now in
    let at = c.loop-at.at in
    let inside : at < length w.hosts = omega (arith, c.loop-at-test.true, ap length c.hosts-hosts.ensures.value) in
    let came = came_to w c.args.arrivals.now c.arrived-arrived.result.now at c.requires inside c.arrived-arrived.ensures in
    let host = c.index-hosts-at.result in
    let here : slice_index_or w.hosts at host ≡ host =
    host_known w at c.hosts-hosts.result.now host c.hosts-hosts.ensures.value c.index-hosts-at.is in
    let put : c.put_host.new.text.items ≡ c.loop-at.text.items ++ host_lines w (at, slice_index_or w.hosts at c.index-hosts-at.result) =
    c.in_ok-put_host.ensures ∙ sym (ap (λ (x : HostLine). c.loop-at.text.items ++ host_lines w (at, x)) here) in
    record {
      text = lines_more w at c.index-hosts-at.result c.loop-at.text.items c.put_host.new.text.items inside c.loop-at.invariant.text put;
      count =
          (λ j. c.loop-at.invariant.count j + places_len w c.args.arrivals.now.kept c.arrived-arrived.result.now at came j)
          ∙ sym (ap length (brought_more w at) ∙ length-append (flat_map (brought w (picked w)) (range_with_len 0 at)) (brought w (picked w) at));
      few = omega (
        arith,
        c.loop-at.invariant.few,
        few_came w c.args.arrivals.now c.arrived-arrived.result.now at c.hosts-hosts.ensures.fits.steps.few_packets c.requires inside c.arrived-arrived.ensures,
      );
    }

pub overflow_add-count : goal.overflow_add-count
overflow_add-count c =
    let w = c.args.scenario.now in
    let low : c.loop-at.at < 64 = omega (arith, c.loop-at-test.true, ap length c.hosts-hosts.ensures.value, c.hosts-hosts.ensures.fits.hosts.few) in
    let inside : c.loop-at.at < length w.hosts = omega (arith, c.loop-at-test.true, ap length c.hosts-hosts.ensures.value) in
    let few = few_came w c.args.arrivals.now c.arrived-arrived.result.now c.loop-at.at c.hosts-hosts.ensures.fits.steps.few_packets c.requires inside
    c.arrived-arrived.ensures in
    Fits-of_lt (omega (arith, low, c.loop-at.invariant.few, few))
