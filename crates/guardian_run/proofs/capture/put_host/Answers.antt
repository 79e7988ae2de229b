use Rattle.std.proofs.Common.{◌≡◌, ◌<◌, arith, length}
use Rattle.std.proofs.lemmas.List.{length-map}
use Rattle.lg_model.specs.Carrying.{picked}
use Rattle.lg_model.specs.Arriving.{brought}
use Rattle.path_sim.specs.Pooling.{item_at, items_at}
use Rattle.guardian_run.proofs.Keeping.{hex_more, hex_all}
use Rattle.guardian_run.proofs.Places.{item_is}
use Rattle.guardian_run.proofs.capture.put_host.Goals as goal

pub put_hex_line-requires : goal.put_hex_line-requires
put_hex_line-requires c =
    let cs = brought c.args.scenario.now (picked c.args.scenario.now) c.args.host_at in
    (item_is c.args.kept.now c.args.arrived.now cs c.loop-place.place-index c.requires.packed c.loop-place-test.true).short

pub loop-place-preserved : goal.loop-place-preserved
loop-place-preserved c =
    let kept = c.args.kept.now in
    let places = c.args.arrived.now in
    let ps = items_at kept places in
    let cs = brought c.args.scenario.now (picked c.args.scenario.now) c.args.host_at in
    let i = c.loop-place.place-index in
    let is = item_is kept places cs i c.requires.packed c.loop-place-test.true in
    let inside : i < length ps = omega (arith, c.loop-place-test.true, length-map places (item_at kept)) in
    hex_more ps cs i c.args.host.now.name c.args.text.now.items c.loop-place.text.items c.put_hex_line.new.out.items _
    c.requires.packed inside is.bytes c.loop-place.invariant c.in_ok-put_hex_line.ensures

pub returns : goal.returns
returns c =
    let ps = items_at c.args.kept.now c.args.arrived.now in
    let cs = brought c.args.scenario.now (picked c.args.scenario.now) c.args.host_at in
    let i = c.loop-place.place-index in
    let end : i ≡ length ps = omega (
      arith,
      c.loop-place-test.false,
      c.loop-place.auto.place-index-end,
      length-map c.args.arrived.now
          (item_at c.args.kept.now),
    ) in
    hex_all ps cs i c.args.host.now.name c.args.text.now.items c.loop-place.text.items c.requires.packed end c.loop-place.invariant
