-- The laws of the pickers.
use Rattle.std.specs.Prelude.{◌≡◌, ℕ, ◌+◌, ◌-◌, ◌*◌, ◌^◌, ◌<◌, Option}
use Rattle.lg_model.specs.declared.scenario.Pick.{Pick}
use Rattle.lg_model.specs.declared.scenario.Pick.TheVariants as choices
use Rattle.lg_model.specs.Carrying.{Offer, chosen}
use Rattle.column_pick.specs.declared.any_picker.AnyPicker.{AnyPicker}
use Rattle.column_pick.specs.Picks.{AnyPicks, fresh, after_offers, chance_stream, stream_answer}

-- A stream from which each offer takes three words gives the offer of number a what the definition chooses.
abbrev pub LawOfTheWords : Type 0
LawOfTheWords = (n name a hops : ℕ) (offer : Offer) → stream_answer hops offer (chance_stream n name a) ≡ chosen (choices.Chance n) name a hops offer

-- An answer of a picker that was offered that often is the choice of the switch of that name, and the picker goes on to
-- what it is after one offer more.
pub record IsNextOffer (pick : Pick) (name offers hops : ℕ) (offer : Offer) (said : Option ℕ) (after : AnyPicker) : Type 0 where
  pub answer : said ≡ chosen pick name offers hops offer
  pub next : after ≡ after_offers pick name (offers + 1)

-- Whatever a scenario's choice is, the fresh picker was offered nothing, and each offer is the next, while the offers are few
-- enough to be counted.
pub record LawOfTheOffers : Type 0 where
  pub first : (pick : Pick) (name : ℕ) → fresh pick name ≡ after_offers pick name 0
  pub each : (pick : Pick) (name offers hops : ℕ) (offer : Offer) (said : Option ℕ) (after : AnyPicker) → offers < 2 ^ 64 - 1 →
      AnyPicks (after_offers pick name offers) hops offer said after → IsNextOffer pick name offers hops offer said after
