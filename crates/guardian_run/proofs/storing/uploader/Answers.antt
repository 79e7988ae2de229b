use Rattle.std.proofs.Common.{◌≡◌, ◌∙◌, List, length, replicate, arith, sym, ap, subst}
use Rattle.std.proofs.lemmas.Result.{IfOk-weaker}
use Rattle.lg_model.specs.Carrying.{picked}
use Rattle.lg_model.specs.Arriving.{brought}
use Rattle.lg_model.specs.declared.scenario.HostLine.{HostLine}
use Rattle.lg_model.specs.Matching.{Matched}
use Rattle.sketchlet_wire.specs.Packing.{IsPacked}
use Rattle.sketchlet_wire.specs.declared.packed.Packed.{Packed}
use Rattle.uploader_core.specs.declared.state.SeqState.TheVariants as state
use Rattle.path_sim.specs.Pooling.{items_at}
use Rattle.host_collect.specs.Cutting.{cut, numbered}
use Rattle.book_laws.specs.Legal.{uploads_at}
use Rattle.guardian_run.proofs.Places.{came_to, few_came, pack}
use Rattle.guardian_run.proofs.Sent.{host_read}
use Rattle.guardian_run.proofs.storing.uploader.Goals as goal

pub new-requires-clause-columns : goal.new-requires-clause-columns
new-requires-clause-columns c =
    let w = c.args.scenario.now in
    let a = c.args.arrivals.now in
    pack w a c.kept.result.now c.arrived-arrived.result.now c.args.at c.requires.arrived c.kept.ensures
    (came_to w a c.arrived-arrived.result.now c.args.at c.requires.arrived c.requires.declared c.arrived-arrived.ensures)

pub new-requires-clause-count : goal.new-requires-clause-count
new-requires-clause-count c =
    few_came c.args.scenario.now c.args.arrivals.now c.arrived-arrived.result.now c.args.at c.requires.fits.scenario.steps.few_packets c.requires.arrived
    c.requires.declared c.arrived-arrived.ensures

pub returns : goal.returns
returns c =
    let w = c.args.scenario.now in
    let at = c.args.at in
    let a = c.args.arrivals.now in
    let host = c.index-hosts-at.result in
    let cs = brought w (picked w) at in
    let came = came_to w a c.arrived-arrived.result.now at c.requires.arrived c.requires.declared c.arrived-arrived.ensures in
    let packed : Matched IsPacked (items_at c.kept.result.now c.arrived-arrived.result.now) cs =
    subst (λ (ps : List Packed). Matched IsPacked (items_at ps c.arrived-arrived.result.now) cs) (sym c.kept.ensures) came.packed in
    let is = host_read w at c.hosts.result.now host c.hosts.ensures.value
    (omega (arith, c.requires.declared, ap length c.hosts.ensures.value)) c.index-hosts-at.is in
    let uploads : c.in_ok-uploads.uploads ≡ numbered host.name (cut cs) = c.in_ok-uploads.ensures.value cs packed in
    let same : c.in_ok-uploads.uploads ≡ uploads_at w at = uploads ∙ ap (λ (x : HostLine). numbered x.name (cut cs)) (sym is) in
    IfOk-weaker c.over.result _ _ (λ u made.
    made ∙ (λ i. record { host = (sym is i).name; uploads = same i; states = replicate (length (same i)) state.Idle })) c.over.ensures.value
