use Rattle.std.proofs.Common.{◌∙◌, ◌++◌, ◌∷◌, [], ◌<◌, List, ℕ, length, ap, arith}
use Rattle.std.proofs.lemmas.List.{length-map}
use Rattle.std.proofs.lemmas.Result.{IfOk-weaker}
use Rattle.path_sim.specs.Pooling.{items_at}
use Rattle.path_sim.proofs.Keeping.{came, arrived}
use Rattle.path_sim.proofs.pool.PoolPost.arrive.Goals as goal

pub returns-clause-arrived : goal.returns-clause-arrived
returns-clause-arrived c =
    let p = c.args.self.now in
    let low : c.args.host_at < length p.inboxes.items = omega (arith, c.requires.inside, length-map p.inboxes.items (items_at p.kept.items)) in
    IfOk-weaker c.push.result _ _ (λ _ row_is column ds kept all.
    came p.kept.items p.inboxes.items ds c.args.host_at c.args.cargo column c.index_mut-inbox.result.now c.push.new.self low kept (row_is
    ∙ ap (λ (xs : List ℕ). xs ++ c.args.cargo ∷ []) c.index_mut-inbox.ensures.value) all) c.push.ensures

pub returns-clause-noted : goal.returns-clause-noted
returns-clause-noted c =
    let p = c.args.self.now in
    let low : c.args.host_at < length p.inboxes.items = omega (arith, c.requires.inside, length-map p.inboxes.items (items_at p.kept.items)) in
    IfOk-weaker c.push.result _ _ (λ _ row_is w cs noted. (
      noted.0,
      arrived w cs p.kept.items p.slots.items p.inboxes.items c.args.host_at c.args.cargo c.requires.known.0 c.index_mut-inbox.result.now
          c.push.new.self low c.requires.known.1
          (row_is ∙ ap (λ (xs : List ℕ). xs ++ c.args.cargo ∷ []) c.index_mut-inbox.ensures.value) noted.1,
    )) c.push.ensures
