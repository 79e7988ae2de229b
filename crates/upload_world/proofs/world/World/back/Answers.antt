use Rattle.std.proofs.Common.{ℕ, List, Ok, subst}
use Rattle.upload_frame.specs.declared.reply.Reply.{Reply}
use Rattle.upload_world.specs.declared.event.Event.TheVariants.{Back}
use Rattle.upload_world.specs.World.{Steps}
use Rattle.upload_world.specs.Kept.{world_of}
use Rattle.upload_world.proofs.Parts.{world_by}
use Rattle.upload_world.proofs.world.World.back.Goals as goal

pub invariant_of-self : goal.invariant_of-self
invariant_of-self c =
    let i = c.self.inside in
    let us = i.uploaders.items in
    let fs = i.frames.items in
    let w = world_of us fs i.replies.items i.book in
    let steps = subst (λ (rs : List Reply). Steps {E = ℕ} (world_of us fs rs i.book) (Back c.args.reply) (Ok c.hand_back.result)
    (world_of c.hand_back.new.uploaders.items fs rs i.book)) c.deref.ensures.value
    (c.hand_back.ensures fs i.book) in
    world_by {E = ℕ} w _ (Back c.args.reply) (Ok c.hand_back.result) c.self.invariant steps c.self.invariant.few_frames c.self.invariant.few_replies
