use Rattle.std.proofs.Common.{◌≡◌, ◌+◌, ◌*◌, ◌∙◌, ◌++◌, ◌∷◌, [], List, ℕ, length, slice_set, sym, ap, subst, rules}
use Rattle.sketchlet_wire.specs.declared.packed.Packed.{Packed}
use Rattle.path_sim.specs.declared.slot.Slot.{Slot}
use Rattle.path_sim.specs.Parts.{carry_is}
use Rattle.path_sim.specs.Pooling.{pooled, IsPoolOf}
use Rattle.path_sim.proofs.Keeping.{took, pooled_same}
use Rattle.path_sim.proofs.pool.PoolPost.take.Goals as goal

pub returns-clause-noted : goal.returns-clause-noted
returns-clause-noted c = λ w cs noted may.
    let p = c.args.self.now in
    let carry = c.args.carry.now in
    let slot : Slot = record { ended = c.epoch-ended.result; place = c.len-place.result } in
    let next = took w cs p.kept.items p.slots.items p.inboxes.items c.args.twins.now carry c.pack.result slot noted.1 may c.pack.ensures
    c.epoch-ended.ensures (let e : c.len-place.result ≡ length p.kept.items = search rules in e) in
    let at : c.from.result * p.width + c.from-2.result ≡ carry.switch_at * w.shape.width + carry.index =
    (λ i. c.from.ensures i * noted.0 i + c.from-2.ensures i) in
    let kept : c.push.new.self.items ≡ p.kept.items ++ c.pack.result ∷ [] = c.in_ok-push.ensures.items in (
      noted.0,
      subst (λ (ps : List Packed). IsPoolOf w (cs ++ carry_is carry ∷ []) ps
          (slice_set p.slots.items (c.from.result * p.width + c.from-2.result) slot) p.inboxes.items) (sym kept)
          (subst (λ (n : ℕ). IsPoolOf w (cs ++ carry_is carry ∷ []) (p.kept.items ++ c.pack.result ∷ [])
          (slice_set p.slots.items n slot) p.inboxes.items) (sym at) next),
    )

pub returns-clause-inboxes : goal.returns-clause-inboxes
returns-clause-inboxes c =
    let p = c.args.self.now in
    ap (λ (ps : List Packed). pooled ps p.inboxes.items) c.in_ok-push.ensures.items
    ∙ pooled_same p.kept.items c.pack.result p.inboxes.items c.requires.2.1.inside
