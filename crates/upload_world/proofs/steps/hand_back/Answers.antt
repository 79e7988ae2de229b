use Rattle.std.proofs.Common.{◌≡◌, ◌∙◌, List, refl, sym, ap, arith, length, map, drop, ltb-true}
use Rattle.std.specs.Option.{option_map}
use Rattle.std.proofs.lemmas.List.{take_at}
use Rattle.std.proofs.lemmas.Option.{slice_get_read}
use Rattle.uploader_core.specs.Uploader.{UploaderState, replied}
use Rattle.upload_world.specs.declared.event.Event.TheVariants.{Back}
use Rattle.upload_world.specs.World.{hand_back}
use Rattle.upload_world.specs.Kept.{world_of}
use Rattle.upload_world.proofs.Parts.{did}
use Rattle.upload_world.proofs.steps.hand_back.Goals as goal

pub returns : goal.returns
returns c frames book =
    let us = c.args.uploaders.now.items in
    let rs = c.args.replies.now in
    let r = c.in-Some.reply.now in
    let w = world_of us frames rs book in
    let look = c.in-Some.ensures.lookup in
    let shown = c.show.ensures ∙ ap (map (λ (u : UploaderState). replied u r)) c.deref_mut.ensures.value in
    let long : length c.show.new.uploaders ≡ c.args.uploaders.now.len = omega arith in
    let after = take_at c.show.new.uploaders (drop (length c.show.new.uploaders) us) c.args.uploaders.now.len long ∙ shown in
    did w (hand_back w r) _ (Back c.args.reply) (ap (option_map (hand_back w))
    (slice_get_read rs (length rs) c.args.reply r refl (ltb-true _ _ (sym look.0)) look.1))
    (ap (λ (vs : List UploaderState). world_of vs frames rs book) after)
