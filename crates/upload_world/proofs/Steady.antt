-- What acknowledging keeps.
use Rattle.std.proofs.Common.{◌≡◌, true, false, cond, List, [], ◌∷◌, length, set, refl, sym, ap, ◌∙◌, arith, length-set}
use Rattle.uploader_core.specs.declared.state.SeqState.{SeqState}
use Rattle.uploader_core.specs.declared.state.SeqState.TheVariants as states
use Rattle.link_deliveries.specs.Waiting.{is_refused, refusals}
use Rattle.link_deliveries.specs.Deliveries.{Delivery, acknowledge, acknowledge_one}
use Rattle.link_deliveries.proofs.Progress.{acknowledged_down}
use Rattle.uploader_core.specs.Uploader.{UploaderState}
use Rattle.upload_world.specs.Pumping.{IsSteady}

pub length-acknowledge : (ss : List SeqState) (ds : List Delivery) → length (acknowledge ss ds) ≡ length ss
length-acknowledge ss [] = refl
length-acknowledge ss (d ∷ ds) = length-acknowledge (acknowledge_one ss d) ds
    ∙ (elim d.heard as (λ b. length (cond b (set ss d.seq states.Acknowledged) ss) ≡ length ss)
    [ true ↦ length-set ss d.seq states.Acknowledged | false ↦ refl ])

pub steady_acknowledged : (u w : UploaderState) (ds : List Delivery) → IsSteady u → w.uploads ≡ u.uploads → w.states ≡ acknowledge u.states ds → IsSteady w
steady_acknowledged u w ds s ups is =
    let down = acknowledged_down is_refused u.states ds refl in
    let none = s.none in
    let same : refusals w.states ≡ refusals (acknowledge u.states ds) = ap refusals is in
    record { each = ap length is ∙ (length-acknowledge u.states ds ∙ (s.each ∙ ap length (sym ups))); none = omega (arith, down, none, same) }
