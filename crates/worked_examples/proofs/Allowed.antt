-- Which carrying is allowed.
use Rattle.std.specs.Prelude.{◌≡◌, ℕ, zero, suc, ◌+◌, ◌<◌, ◌≤◌, List, [], ◌∷◌, All, Any, slice_index_or}
use Rattle.std.proofs.Common.{ap, refl, subst, arith}
use Rattle.std.proofs.lemmas.List.Elements.{All-from_recursion, All-nil}
use Rattle.lg_model.specs.Trace.{Meeting, meetings, ended_before}
use Rattle.lg_model.specs.Carrying.{Carry, IsCarriedAt, IsAllowed}
use Rattle.worked_examples.specs.Networks.{ports}
use Rattle.worked_examples.specs.Pickers.{entry}
use Rattle.worked_examples.specs.Carrying.{carrying, silent}

abbrev no_meeting : Meeting
no_meeting = record { number = 0; step_at = 0; hop = 0; hops = 0; switch_at = 0; key = ports 0 0; size = 0; delay = 0 }

abbrev met_at : ℕ → Meeting
met_at k = slice_index_or (meetings carrying) k no_meeting

-- What a packet at its last hop has to carry, after an end.
abbrev HasOne : List Carry → Meeting → Type 0
HasOne cs m = m.hop ≡ m.hops → 0 < ended_before carrying m → Any (λ (c : Carry). c.packet ≡ m.number) cs

pub some : IsAllowed carrying (entry 1 1 0 0 1 ∷ entry 2 2 1 0 0 ∷ [])
some = record {
  rising = rising;
  each = All-from_recursion (λ c. Any (IsCarriedAt carrying c) (meetings carrying)) (entry 1 1 0 0 1 ∷ entry 2 2 1 0 0 ∷ []) (
    (2, met_at 2, omega arith, refl, record { packet = refl; hop = refl; switch = refl; epoch = refl; index = omega arith }),
    ((5, met_at 5, omega arith, refl, record { packet = refl; hop = refl; switch = refl; epoch = refl; index = omega arith }), tt),
  );
  last = All-from_recursion (HasOne (entry 1 1 0 0 1 ∷ entry 2 2 1 0 0 ∷ [])) (meetings carrying) (
    λ a b. absurd (omega (arith, a)),
    (
      λ a b. absurd (omega (arith, b)),
      (
        λ a b. absurd (omega (arith, a)),
        (
          λ a b. (0, entry 1 1 0 0 1, omega arith, refl, refl),
          (λ a b. absurd (omega (arith, a)), (λ a b. (1, entry 2 2 1 0 0, omega arith, refl, refl), tt)),
        ),
      ),
    ),
  );
}
  where
    rising : (k : ℕ) → k + 1 < 2 → slice_index_or (1 ∷ 2 ∷ []) k 0 < slice_index_or (1 ∷ 2 ∷ []) (k + 1) 0
    rising zero lt = omega arith
    rising (suc k) lt = omega (arith, lt)

pub none : IsAllowed silent []
none = record {
  rising = λ k lt. omega (arith, lt);
  each = All-nil _;
  last = All-from_recursion (λ m. m.hop ≡ m.hops → 0 < ended_before silent m → Any (λ (c : Carry). c.packet ≡ m.number) []) (meetings silent)
      (λ a b. absurd (omega (arith, b)), (λ a b. absurd (omega (arith, b)), tt));
}

-- What holds at each meeting: one epoch has ended at most, none for the first packet, and the hop tells the switch.
pub record Fits (m : Meeting) : Type 0 where
  pub few : ended_before carrying m ≤ 1
  pub first : ended_before carrying m ≤ m.number
  pub hop : m.hop ≡ m.switch_at + 1

all_fit : All Fits (meetings carrying)
all_fit = All-from_recursion Fits (meetings carrying) (
  at,
  (
    at2,
    (
      record { few = omega arith; first = omega arith; hop = refl },
      (
        record { few = omega arith; first = omega arith; hop = refl },
        (record { few = omega arith; first = omega arith; hop = refl }, (record { few = omega arith; first = omega arith; hop = refl }, tt)),
      ),
    ),
  ),
)
  where
    at : Fits (met_at 0)
    at = record { few = omega arith; first = omega arith; hop = refl }

    at2 : Fits (met_at 1)
    at2 = record { few = omega arith; first = omega arith; hop = refl }

-- The meeting at which an entry is carried.
pub record Carried (c : Carry) : Type 0 where
  pub meeting : Meeting
  pub fits : Fits meeting
  pub is : IsCarriedAt carrying c meeting

carried : (c : Carry) → Any (IsCarriedAt carrying c) (meetings carrying) → Carried c
carried c (k, m, low, same, is) = record { meeting = m; fits = subst Fits same (all_fit k m low); is = is }

pub other_epoch : IsAllowed carrying (entry 1 2 1 1 0 ∷ entry 2 2 1 0 0 ∷ []) → ⊥
other_epoch h = let c = carried (entry 1 2 1 1 0) (h.each 0 (entry 1 2 1 1 0) (omega arith)) in omega (arith, c.fits.few, c.is.epoch)

pub too_early : IsAllowed carrying (entry 0 2 1 0 0 ∷ entry 1 2 1 0 0 ∷ entry 2 2 1 0 0 ∷ []) → ⊥
too_early h = let c = carried (entry 0 2 1 0 0) (h.each 0 (entry 0 2 1 0 0) (omega arith)) in omega (arith, c.fits.first, c.is.packet, c.is.epoch)

pub other_hop : IsAllowed carrying (entry 1 2 0 0 0 ∷ entry 2 2 1 0 0 ∷ []) → ⊥
other_hop h = let c = carried (entry 1 2 0 0 0) (h.each 0 (entry 1 2 0 0 0) (omega arith)) in omega (arith, c.fits.hop, c.is.hop, c.is.switch)

pub past_width : IsAllowed carrying (entry 1 2 1 0 2 ∷ entry 2 2 1 0 0 ∷ []) → ⊥
past_width h = let c = carried (entry 1 2 1 0 2) (h.each 0 (entry 1 2 1 0 2) (omega arith)) in omega (arith, c.is.index)

pub missing : IsAllowed carrying (entry 1 2 1 0 0 ∷ []) → ⊥
missing h = none_of_two (h.last 5 no_meeting (omega arith) refl (omega arith))
  where
    none_of_two : Any (λ (c : Carry). c.packet ≡ 2) (entry 1 2 1 0 0 ∷ []) → ⊥
    none_of_two (zero, c, low, same, is) = let n : 1 ≡ c.packet = ap (λ (x : Carry). x.packet) same in omega (arith, n, is)
    none_of_two (suc k, c, low, same, is) = omega (arith, low)
