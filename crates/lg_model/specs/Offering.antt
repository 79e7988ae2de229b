-- A network whose pickers are told by a relation.
use Rattle.std.specs.Prelude.{◌≡◌, ℕ, ◌<◌, Bool, true, false, List, [], slice_set, slice_get, Option, Some, None, IfSome, IfNone}
use Rattle.lg_model.specs.Scenario.{Scenario}
use Rattle.lg_model.specs.Trace.{Meeting, meetings}
use Rattle.lg_model.specs.Runs.{Runs}
use Rattle.lg_model.specs.Carrying.{Carry, Offer, hops_left, is_offered, offer_at, with_choice}

-- What a picker may answer: the picker before, the hops left, the offer, the answer, the picker after.
abbrev pub Picks : Type 0 → Type 1
Picks S = S → ℕ → Offer → Option ℕ → S → Type 0

-- The law of every picker: the index is below the width, and none is given only where more than one hop is left.
pub record IsLawful (hops : ℕ) (offer : Offer) (answer : Option ℕ) : Type 0 where
  pub index : IfSome answer (λ j. j < offer.width)
  pub none : IfNone answer (1 < hops)

-- The pickers of the switches, and what is carried so far.
pub record Offering (S : Type 0) : Type 0 where
  pub pickers : List S
  pub carried : List Carry

abbrev pub offering : {S : Type 0} → List S → List Carry → Offering S
offering ps cs = record { pickers = ps; carried = cs }

-- The picker of the switch answers, and the packet carries what it says.
pub record IsOffered {S : Type 0} (picks : Picks S) (w : Scenario) (m : Meeting) (old new : Offering S) : Type 0 where
  pub before : S
  pub after : S
  pub answer : Option ℕ
  pub its : slice_get old.pickers m.switch_at ≡ Some before
  pub says : picks before (hops_left m) (offer_at w old.carried m) answer after
  pub lawful : IsLawful (hops_left m) (offer_at w old.carried m) answer
  pub pickers : new.pickers ≡ slice_set old.pickers m.switch_at after
  pub carried : new.carried ≡ with_choice w m old.carried answer

-- What a meeting does to pickers and carried columns: an offer, or nothing.
pub record IsPick {S : Type 0} (picks : Picks S) (w : Scenario) (m : Meeting) (old new : Offering S) : Type 0 where
  pub offers : is_offered w old.carried m ≡ true → IsOffered picks w m old new
  pub passes : is_offered w old.carried m ≡ false → new ≡ old

-- Over all meetings the pickers went from the first list to the second, and their answers gave this carry list.
abbrev pub HaveChosen : {S : Type 0} → Picks S → Scenario → (old new : List S) → List Carry → Type 0
HaveChosen picks w old new cs = Runs (IsPick picks w) (meetings w) (offering old []) (offering new cs)
