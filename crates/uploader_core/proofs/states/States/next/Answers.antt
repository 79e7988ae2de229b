use Rattle.std.proofs.Common.{◌<◌, ◌∙◌, ap, arith, length}
use Rattle.std.specs.List.{position_or_len}
use Rattle.uploader_core.specs.States.{is_idle}
use Rattle.uploader_core.proofs.Tallies.{sent_tallied, past_tallied}
use Rattle.uploader_core.proofs.states.States.next.Goals as goal

pub invariant_of-self : goal.invariant_of-self
invariant_of-self c = past_tallied c.self.inside.items.items _ _ _ _ c.self.invariant (c.first_idle-self-inside.ensures ∙ ap (position_or_len is_idle) c.deref.ensures.value)

pub invariant_of-self-2 : goal.invariant_of-self-2
invariant_of-self-2 c =
    let at = c.first_idle-self-inside.result in
    let lt : at < length c.self.inside.items.items = omega arith in
    sent_tallied c.self.inside.items.items _ _ _ _ c.self.invariant (omega arith) (c.first_idle-self-inside.ensures ∙ ap (position_or_len is_idle) c.deref.ensures.value) lt
