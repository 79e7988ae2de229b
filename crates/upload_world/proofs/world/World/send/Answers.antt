use Rattle.std.proofs.Common.{arith, subst, sym, ◌<◌, ◌^◌, ◌-◌, length}
use Rattle.upload_world.specs.declared.event.Event.{Event}
use Rattle.upload_world.specs.declared.event.Event.TheVariants.{Send}
use Rattle.upload_world.specs.World.{WorldState}
use Rattle.upload_world.specs.Kept.{world_of}
use Rattle.upload_world.proofs.Parts.{world_by, frames_by}
use Rattle.upload_world.proofs.world.World.send.Goals as goal

pub invariant_of-self : goal.invariant_of-self
invariant_of-self c =
    let w0 = c.self.inside in
    let w = world_of w0.uploaders.items w0.frames.items w0.replies.items w0.book in
    let e : Event = (Send c.args.at) in
    let i = c.self.invariant in
    let steps = c.send.ensures w.replies w0.book in
    let room = subst (λ (x : WorldState). length x.frames < 2 ^ 32 - 1) (sym c.self.view_is) c.requires in
    world_by w _ e _ i steps (omega (arith, frames_by w _ e _ steps, room)) i.few_replies
