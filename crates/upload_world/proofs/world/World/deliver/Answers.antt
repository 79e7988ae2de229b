use Rattle.std.proofs.Common.{List, arith, subst, sym, ◌<◌, ◌^◌, ◌-◌, length}
use Rattle.sketchlet_wire.specs.Uploads.{UploadData}
use Rattle.upload_world.specs.declared.event.Event.TheVariants.{Deliver}
use Rattle.upload_world.specs.World.{WorldState, Steps}
use Rattle.upload_world.specs.Kept.{world_of}
use Rattle.upload_world.proofs.Parts.{world_by, replies_by}
use Rattle.upload_world.proofs.world.World.deliver.Goals as goal

pub invariant_of-self : goal.invariant_of-self
invariant_of-self c =
    let i = c.self.inside in
    let us = i.uploaders.items in
    let e = Deliver c.args.frame in
    let w = world_of us i.frames.items i.replies.items i.book in
    let steps = subst (λ (fs : List UploadData). Steps (world_of us fs i.replies.items i.book) e c.deliver.result
    (world_of us fs c.deliver.new.replies.items c.deliver.new.book)) c.deref.ensures.value
    (c.deliver.ensures us) in
    let room = subst (λ (x : WorldState). length x.replies < 2 ^ 32 - 1) (sym c.self.view_is) c.requires in
    world_by w _ e _ c.self.invariant steps c.self.invariant.few_frames (omega (arith, replies_by w _ e _ steps, room))
