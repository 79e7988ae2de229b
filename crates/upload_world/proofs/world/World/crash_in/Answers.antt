use Rattle.std.proofs.Common.{List, subst}
use Rattle.sketchlet_wire.specs.Uploads.{UploadData}
use Rattle.upload_world.specs.declared.event.Event.TheVariants.{CrashIn}
use Rattle.upload_world.specs.World.{Steps}
use Rattle.upload_world.specs.Kept.{world_of}
use Rattle.upload_world.proofs.Parts.{world_by}
use Rattle.upload_world.proofs.world.World.crash_in.Goals as goal

pub invariant_of-self : goal.invariant_of-self
invariant_of-self c =
    let i = c.self.inside in
    let us = i.uploaders.items in
    let rs = i.replies.items in
    let e = CrashIn c.args.frame c.args.kept in
    let w = world_of us i.frames.items rs i.book in
    let steps = subst (λ (fs : List UploadData). Steps (world_of us fs rs i.book) e c.crash_in.result
    (world_of us fs rs c.crash_in.new.book)) c.deref.ensures.value (c.crash_in.ensures us rs) in
    world_by w _ e _ c.self.invariant steps c.self.invariant.few_frames c.self.invariant.few_replies
