-- What the pickers answer, and what they are after it.
use Rattle.std.specs.Prelude.{◌≡◌, ℕ, ◌+◌, ◌-◌, ◌*◌, ◌^◌, nat_lt, List, [], ◌∷◌, drop, min, Option, None, Some, if◌then◌else◌}
use Rattle.rand_chacha.specs.ChaCha.{ChaCha, of_seed}
use Rattle.lg_model.specs.declared.scenario.Pick.{Pick}
use Rattle.lg_model.specs.declared.scenario.Pick.TheVariants as choices
use Rattle.lg_model.specs.Carrying.{Offer, turns_answer, chance_seed, chance_word, words_on, chance_answer}
use Rattle.column_pick.specs.declared.any_picker.AnyPicker.{AnyPicker}
use Rattle.column_pick.specs.declared.any_picker.AnyPicker.TheVariants.{Turns, Chance}

-- By turns: the answer at the offer of that number, from 0, and the number of the next offer, at most 2^64 - 1.
pub record TurnsPicks (before hops : ℕ) (offer : Offer) (said : Option ℕ) (after : ℕ) : Type 0 where
  pub answer : said ≡ turns_answer before hops offer
  pub next : after ≡ min (before + 1) (2 ^ 64 - 1)

-- The stream of a switch after that many offers: three words an offer.
abbrev pub chance_stream : (n name offers : ℕ) → ChaCha
chance_stream n name offers = words_on (3 * offers) (of_seed (chance_seed n name))

-- The answer by the next three words of a stream.
abbrev pub stream_answer : (hops : ℕ) → Offer → ChaCha → Option ℕ
stream_answer hops offer g = chance_answer hops offer (chance_word g) (chance_word (words_on 1 g)) (chance_word (words_on 1 (words_on 1 g)))

-- By chance: the answer by the next three words of the stream, and the stream after them.
pub record ChancePicks (before : ChaCha) (hops : ℕ) (offer : Offer) (said : Option ℕ) (after : ChaCha) : Type 0 where
  pub answer : said ≡ stream_answer hops offer before
  pub next : after ≡ words_on 1 (words_on 1 (words_on 1 before))

-- An answer, or index 0 where it is not allowed with those hops left and that width.
abbrev pub allowed : (hops : ℕ) → Offer → Option ℕ → Option ℕ
allowed hops offer None = if nat_lt 1 hops then None else Some 0
allowed hops offer (Some j) = if nat_lt j offer.width then Some j else Some 0

-- The next answer of a script: its first one, or index 0 where it has none.
abbrev pub next_answer : List (Option ℕ) → Option ℕ
next_answer [] = Some 0
next_answer (said ∷ more) = said

-- By a script: its next answer, as far as it is allowed, and the answers after it.
pub record ScriptPicks (before : List (Option ℕ)) (hops : ℕ) (offer : Offer) (said : Option ℕ) (after : List (Option ℕ)) : Type 0 where
  pub answer : said ≡ allowed hops offer (next_answer before)
  pub next : after ≡ drop 1 before

-- A picker of either kind picks as the one that it holds, and stays of its kind.
abbrev pub AnyPicks : AnyPicker → ℕ → Offer → Option ℕ → AnyPicker → Type 0
AnyPicks (Turns before) hops offer said (Turns after) = TurnsPicks before hops offer said after
AnyPicks (Turns before) hops offer said (Chance after) = ⊥
AnyPicks (Chance before) hops offer said (Turns after) = ⊥
AnyPicks (Chance before) hops offer said (Chance after) = ChancePicks before hops offer said after

-- The picker of the switch of that name, before it is offered.
abbrev pub fresh : Pick → (name : ℕ) → AnyPicker
fresh choices.Turns name = Turns 0
fresh (choices.Chance n) name = Chance (of_seed (chance_seed n name))

-- The picker of the switch of that name after that many offers.
abbrev pub after_offers : Pick → (name offers : ℕ) → AnyPicker
after_offers choices.Turns name offers = Turns offers
after_offers (choices.Chance n) name offers = Chance (chance_stream n name offers)
