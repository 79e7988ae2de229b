-- A column comes to a host.
use Rattle.std.specs.Prelude.{◌≡◌, ℕ, ◌<◌, List, [], ◌∷◌, ◌++◌, length, slice_set, slice_index_or}
use Rattle.std.proofs.Common.{◌∙◌, sym, subst}
use Rattle.std.proofs.lemmas.List.{get_or_default}
use Rattle.lg_model.specs.Columns.{Column}
use Rattle.lg_model.specs.Midway.{AreDelivered}
use Rattle.lg_model.proofs.Arrivals.{deliver_one}
use Rattle.sketchlet_wire.specs.declared.packed.Packed.{Packed}
use Rattle.sketchlet_wire.specs.Packing.{IsPacked}

pub delivered : (ds : List (ℕ × Column)) (hosts : List (List Packed)) (a : ℕ) (c : Column) (old new : List Packed) (p : Packed) → a < length hosts
    → old ≡ slice_index_or hosts a old →
    new ≡ old ++ p ∷ [] → IsPacked p c → AreDelivered IsPacked ds hosts → AreDelivered IsPacked (ds ++ (a, c) ∷ []) (slice_set hosts a new)
delivered ds hosts a c old new p inside found pushed of all =
    subst (λ (xs : List Packed). AreDelivered IsPacked (ds ++ (a, c) ∷ []) (slice_set hosts a xs)) (sym pushed)
    (deliver_one IsPacked ds hosts a c old p inside (found ∙ get_or_default hosts a old [] inside) of all)
