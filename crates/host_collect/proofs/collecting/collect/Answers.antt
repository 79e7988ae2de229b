use Rattle.std.proofs.Common.{◌≡◌, ◌+◌, ◌++◌, List, Option, take, arith, sym, ap, subst, ◌∙◌}
use Rattle.std.proofs.lemmas.List.{append-nil, length-take}
use Rattle.std.specs.Global.{Vec}
use Rattle.std.proofs.lemmas.Result.{err_from_is_err_and}
use Rattle.lg_model.proofs.Pairing.{matched_length}
use Rattle.sketchlet_wire.specs.Packing.{IsPacked}
use Rattle.host_collect.proofs.Items.{Keeps, kept_more, refused}
use Rattle.host_collect.specs.Collecting.{list_of}
use Rattle.sketchlet_wire.specs.Uploads.{UploadData}
use Rattle.host_collect.proofs.collecting.collect.Goals.{in-Some+in_ok-push, in_default}
use Rattle.host_collect.proofs.collecting.collect.Goals as goal

pub push-requires-clause-count : goal.push-requires-clause-count
push-requires-clause-count c =
    let inv = c.loop-item.invariant in
    omega (
      arith,
      inv.2.taken,
      matched_length IsPacked (take c.loop-item.item-index c.args.items.now) inv.0 inv.1,
      length-take c.loop-item.item-index c.args.items.now,
      c.loop-item-test.true,
      c.requires.count,
    )

pub returns-in_err-upload : goal.returns-in_err-upload
returns-in_err-upload c =
    let inv = c.loop-item.invariant in
    let i = c.loop-item.item-index in
    let taken : c.loop-item.cutter.taken ≡ i =
    omega (arith, inv.2.taken, matched_length IsPacked (take i c.args.items.now) inv.0 inv.1, length-take i c.args.items.now, c.loop-item-test.true) in
    let p = err_from_is_err_and c.from_residual.result c.from_residual.ensures.1 in
    rw (p.1, p.2) (refused c.args.items.now i c.loop-item.cutter.taken inv.0 c.in_err-upload.field-0.0 c.loop-item-test.true inv.1 taken
    c.in_err-upload.ensures.0)

pub loop-item-preserved : goal.loop-item-preserved
loop-item-preserved c =
    let more = kept_more c.args.host c.args.items.now c.loop-item.item-index c.loop-item.given.items c.loop-item.cutter c.push.new.self
    c.in_ok-upload.field-0 c.loop-item-test.true c.loop-item.invariant c.in_ok-upload.ensures in
    let kept = λ (given : List UploadData). Keeps c.args.host (take (c.loop-item.item-index + 1) c.args.items.now) given c.push.new.self in
    elim c.match-branch-2.branch [
      | in-Some+in_ok-push w ↦
          let given : c.loop-item.given.items ++ list_of c.in_ok-upload.field-0 ≡ c.match-branch-2.given.items =
          ap (λ (o : Option UploadData). c.loop-item.given.items ++ list_of o) w.in-Some.is
          ∙ sym (ap (λ (v : Vec UploadData). v.items) w.given-is ∙ w.in_ok-push.ensures.items) in
          subst kept given more
      | in_default w ↦
          let given : c.loop-item.given.items ++ list_of c.in_ok-upload.field-0 ≡ c.match-branch-2.given.items =
          ap (λ (o : Option UploadData). c.loop-item.given.items ++ list_of o) w.in_default.is ∙ append-nil c.loop-item.given.items
          ∙ sym (ap (λ (v : Vec UploadData). v.items) w.given-is) in
          subst kept given more
    ]
