use Rattle.std.proofs.Common.{◌≡◌, ◌<◌, ◌∙◌, ◌++◌, ◌∷◌, [], Some, sym, ap, arith, length, set, get_or-set_same}
use Rattle.std.specs.Prelude.{slice_get}
use Rattle.std.proofs.lemmas.List.{set-get_or}
use Rattle.uploader_core.specs.Uploader.{UploaderState}
use Rattle.upload_world.specs.declared.event.Event.TheVariants.{Send}
use Rattle.upload_world.specs.Kept.{world_of}
use Rattle.upload_world.proofs.Parts.{did, did_not, send_none, send_some}
use Rattle.upload_world.proofs.steps.send.Goals as goal

pub returns-in-None : goal.returns-in-None
returns-in-None c rs book =
    let us = c.args.uploaders.now.items in
    let at = c.args.at in
    let u = c.index_mut.result.now in
    let w = world_of us c.args.frames.now.items rs book in
    let lt : at < length us = omega arith in
    let is = c.index_mut.ensures.value in
    let same = ap (λ (x : UploaderState). set us at x) (c.in-None.ensures.states ∙ is) ∙ set-get_or us at u in
    did_not w _ (Send at) (send_none w at u lt is (sym c.in-None.ensures.which)) (λ i. world_of (same i) (c.reserve.ensures.items i) rs book)

pub returns-in-Some : goal.returns-in-Some
returns-in-Some c rs book =
    let us = c.args.uploaders.now.items in
    let at = c.args.at in
    let u = c.index_mut.result.now in
    let seq = c.in-Some.seq in
    let v = c.next.new.self in
    let w = world_of us c.args.frames.now.items rs book in
    let f = c.upload.result.now in
    let lt : at < length us = omega arith in
    let is = c.index_mut.ensures.value in
    let found : c.index.result.now ≡ v = c.index.ensures ∙ get_or-set_same us at v c.index.result.now lt in
    let there : slice_get u.uploads seq ≡ Some f = sym (ap (λ (x : UploaderState). slice_get x.uploads seq) (found ∙ c.in-Some.ensures.states))
    ∙ c.upload.ensures.value in
    let frames = c.push_reserved.ensures.items ∙ (λ i. c.reserve.ensures.items i ++ c.copy_into-frame.ensures i ∷ []) in
    did w _ _ (Send at) (send_some w at u seq f lt is (sym c.in-Some.ensures.which) there)
    (λ i. world_of (set us at (c.in-Some.ensures.states i)) (frames i) rs book)
