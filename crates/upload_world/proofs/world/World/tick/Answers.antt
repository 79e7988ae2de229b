use Rattle.std.proofs.Common.{ℕ, Ok}
use Rattle.upload_world.specs.declared.event.Event.{Event}
use Rattle.upload_world.specs.declared.event.Event.TheVariants.{Tick}
use Rattle.upload_world.specs.Kept.{world_of}
use Rattle.upload_world.proofs.Parts.{world_by}
use Rattle.upload_world.proofs.world.World.tick.Goals as goal

pub invariant_of-self : goal.invariant_of-self
invariant_of-self c =
    let w0 = c.self.inside in
    let w = world_of w0.uploaders.items w0.frames.items w0.replies.items w0.book in
    let e : Event = (Tick c.args.at) in
    let i = c.self.invariant in
    let steps = c.tick.ensures w.frames w.replies w0.book in
    world_by {E = ℕ} w _ e (Ok c.tick.result) i steps (i.few_frames) (i.few_replies)
