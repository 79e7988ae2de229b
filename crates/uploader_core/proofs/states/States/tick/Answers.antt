use Rattle.std.proofs.Common.{◌≡◌, ◌<◌, ◌≤◌, ℕ, List, length, false, ◌∙◌, ap, sym, subst, arith, drop}
use Rattle.std.proofs.lemmas.List.{take_at}
use Rattle.uploader_core.specs.declared.state.SeqState.{SeqState}
use Rattle.uploader_core.specs.States.{ticked, state_at, is_outstanding}
use Rattle.uploader_core.proofs.Tallies.{ticked_none, ticked_tallied, none_outstanding}
use Rattle.uploader_core.proofs.states.States.tick.Goals as goal

pub returns-then-self-eq0-clause-states : goal.returns-then-self-eq0-clause-states
returns-then-self-eq0-clause-states c = rw (← c.self.view_is) (sym (ticked_none c.self.inside.items.items (sym c.self.invariant.counted ∙ c.if-self-eq0.true)))

pub invariant_of-self : goal.invariant_of-self
invariant_of-self c =
    let given = c.give_up-first.ensures in
    let was = c.deref_mut.ensures.value in
    let after = given.states ∙ ap ticked was in
    let long : length c.give_up-first.new.states ≡ c.self.inside.items.len = omega arith in
    rw (take_at c.give_up-first.new.states (drop (length c.give_up-first.new.states) c.self.inside.items.items) c.self.inside.items.len long, c.min-self-inside.ensures, after)
    (ticked_tallied c.self.inside.items.items _ _ _ _ c.self.invariant (subst (λ (ss : List SeqState). (k : ℕ) → k < c.give_up-first.result → is_outstanding (state_at ss k) ≡ false) was given.first) (subst (λ (ss : List SeqState). c.give_up-first.result ≤ length ss) was given.within))

pub returns-clause-window : goal.returns-clause-window
returns-clause-window c =
    let given = c.give_up-first.ensures in
    let after = given.states ∙ ap ticked c.deref_mut.ensures.value in
    let long : length c.give_up-first.new.states ≡ c.self.inside.items.len = omega arith in
    rw (take_at c.give_up-first.new.states (drop (length c.give_up-first.new.states) c.self.inside.items.items) c.self.inside.items.len long, after)
    (let zero = none_outstanding c.self.inside.items.items in omega arith)
