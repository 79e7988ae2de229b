use Rattle.std.proofs.Common.{◌<◌, ◌≤◌, ◌∙◌, ap, sym, arith, length, refl, ltb-true, ltb-false}
use Rattle.std.specs.Prelude.{slice_index_or}
use Rattle.std.proofs.lemmas.Bool.{le-ltb}
use Rattle.std.proofs.lemmas.Option.{slice_get_read, slice_get_past}
use Rattle.upload_world.specs.Kept.{world_of}
use Rattle.upload_world.proofs.Parts.{acked_past, acked_none}
use Rattle.upload_world.proofs.world.World.acked.Goals as goal

pub returns-else-seq-len-clause-value : goal.returns-else-seq-len-clause-value
returns-else-seq-len-clause-value c =
    let i = c.self.inside in
    let us = i.uploaders.items in
    let w = world_of us i.frames.items i.replies.items i.book in
    let u = c.in-Some.uploader.now in
    let look = c.in-Some.ensures.lookup in
    let long = ap length c.deref.ensures.value in
    let lt : c.args.at < length us = omega (arith, ltb-true _ _ (sym look.0), long) in
    let is = look.1 ∙ ap (λ xs. slice_index_or xs c.args.at u) c.deref.ensures.value in
    le-ltb c.args.seq c.len.result c.if-seq-len.false
    ∙ sym (rw (← c.self.view_is) (acked_past w c.args.at c.args.seq u (slice_get_read us (length us) c.args.at u refl lt is) c.len.ensures.uploader
    (omega (arith, c.len.ensures.len, c.if-seq-len.false))))

pub returns-in-None-clause-value : goal.returns-in-None-clause-value
returns-in-None-clause-value c =
    let i = c.self.inside in
    let us = i.uploaders.items in
    let w = world_of us i.frames.items i.replies.items i.book in
    let look = c.in-None.ensures.lookup in
    let past : length us ≤ c.args.at = omega (arith, ltb-false _ _ (sym look.0), ap length c.deref.ensures.value) in
    sym (rw (← c.self.view_is) (acked_none w c.args.at c.args.seq (slice_get_past us c.args.at past)))
