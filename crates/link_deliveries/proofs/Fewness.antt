-- How many deliveries there are at most.
use Rattle.std.proofs.Common.{◌≡◌, ℕ, zero, suc, ◌+◌, ◌*◌, ◌<◌, ◌≤◌, true, false, cond, List, [], ◌∷◌, ◌++◌, length, get_or, set, drop, map, refl, sym, ap, subst, ◌∙◌, arith, length-append, drop-drop, inl, inr}
use Rattle.std.proofs.lemmas.List.{length-map}
use Rattle.std.proofs.lemmas.List.Sums.{fold-append}
use Rattle.std.proofs.lemmas.Bool.{cases_lt}
use Rattle.lg_model.specs.declared.scenario.Letter.{Letter}
use Rattle.uploader_core.specs.declared.state.SeqState.{SeqState}
use Rattle.uploader_core.specs.declared.state.SeqState.TheVariants.{Idle, Outstanding, Acknowledged, Refused}
use Rattle.uploader_core.specs.States.{is_idle, outstanding, ticked}
use Rattle.link_deliveries.specs.Waiting.{is_waiting, idle_from, all_acknowledged, unacknowledged, IsNext}
use Rattle.link_deliveries.specs.Deliveries.{Send, Delivery, send, heard, letter_of, brings, brought, held_after, after_send, round, rounds, after_round, letters_after, acknowledge, acknowledge_one, brought_in_all, IsHeld}
use Rattle.link_deliveries.specs.Laws.{LawOfFewness}
use Rattle.link_deliveries.proofs.Steps.{sends_on, sends_one, sends_none_full, sends_none_idle, ticked_acknowledged, ticked_sent}
use Rattle.link_deliveries.proofs.Progress.{acknowledged_down}
use Rattle.link_deliveries.proofs.Room.{has_room, ticked_waits}

-- the first of those that are idle
record IsFirst (ss : List SeqState) : Type 0 where
  q : ℕ
  short : q < length ss
  idle : get_or ss q Refused ≡ Idle
  least : (k : ℕ) → k < q → is_idle (get_or ss k Refused) ≡ false

is_the_idle : (s : SeqState) → is_idle s ≡ true → s ≡ Idle
is_the_idle Idle h = refl
is_the_idle Outstanding h = absurd cc
is_the_idle Acknowledged h = absurd cc
is_the_idle Refused h = absurd cc

first : (ss : List SeqState) (n : ℕ) → 0 < length (idle_from n ss) → IsFirst ss
first [] n some = absurd (omega arith)
first (s ∷ ss) n some = (elim (is_idle s) as (λ b. is_idle s ≡ b → 0 < length (cond b (n ∷ idle_from (n + 1) ss) (idle_from (n + 1) ss)) → IsFirst (s ∷ ss)) [
  | true ↦ λ is more. record { q = 0; short = omega arith; idle = is_the_idle s is; least = λ k less. absurd (omega arith) }
  | false ↦ λ is more.
      let f = first ss (n + 1) more in
      let l = f.short in
      record { q = suc f.q; short = omega arith; idle = f.idle; least = λ k less. below s ss f.q is f.least k less }
]) refl some
  where
    below : (s : SeqState) (ss : List SeqState) (q : ℕ) → is_idle s ≡ false → ((k : ℕ) → k < q → is_idle (get_or ss k Refused) ≡ false) → (k : ℕ) → k < suc q
        → is_idle (get_or (s ∷ ss) k Refused) ≡ false
    below s ss q is least zero less = is
    below s ss q is least (suc k) less = least k (omega arith)

-- what a round costs, from where it stands: two for a letter, one for an upload that is acknowledge, one for an upload held
abbrev Cost : List SeqState → List ℕ → List Letter → Type 0
Cost ss held ls = length (brought held (sends_on ss held ls)) + 2 * length (drop (length (sends_on ss held ls)) ls)
    + unacknowledged (acknowledge (ticked ss) (brought held (sends_on ss held ls)))
    ≤ length held + 2 * length ls + unacknowledged ss

cost_none : (ss : List SeqState) (held : List ℕ) (ls : List Letter) → sends_on ss held ls ≡ [] → Cost ss held ls
cost_none ss held ls none =
    let a = acknowledged_down is_waiting (ticked ss) (map heard held) refl in
    let b = ticked_waits ss in
    let c = length-map held heard in
    subst (λ sd. length (brought held sd) + 2 * length (drop (length sd) ls) + unacknowledged (acknowledge (ticked ss) (brought held sd))
    ≤ length held + 2 * length ls + unacknowledged ss) (sym none) (omega arith)

cost_some : (n : ℕ) (ss : List SeqState) (held : List ℕ) (ls : List Letter) (q : ℕ) → IsNext ss q → IsHeld ss held
    → ((after : List SeqState) (kept : List ℕ) (rest : List Letter) → length (idle_from 0 after) < length (idle_from 0 ss) → IsHeld after kept
    → Cost after kept rest) → Cost ss held ls
cost_some n ss held ls q next h on =
    let l = letter_of ls in
    let one = sends_one ss q held ls next h in
    let after = after_send ss q l held in
    let kept = held_after l q held in
    let later = sends_on after kept (drop 1 ls) in
    let rest = on after kept (drop 1 ls) one.fewer one.kept in
    let room = has_room 0 (2 * length ls + unacknowledged ss + length held) ss q held ls next (omega arith) in
    let then = room.then in
    let all : brought held (sends_on ss held ls) ≡ brings (send q l) held ++ brought kept later = ap (brought held) one.on in
    let long = ap length all ∙ length-append (brings (send q l) held) (brought kept later) in
    let left : drop (length (sends_on ss held ls)) ls ≡ drop (length later) (drop 1 ls)
    = ap (λ (sd : List Send). drop (length sd) ls) one.on ∙ (ap (λ (k : ℕ). drop k ls) one_more ∙ sym (drop-drop (length later) 1 ls)) in
    let lefts = ap length left in
    let states : acknowledge (ticked ss) (brought held (sends_on ss held ls)) ≡ acknowledge (ticked after) (brought kept later)
    = ap (acknowledge (ticked ss)) all ∙ (fold-append acknowledge_one (ticked ss) (brings (send q l) held) (brought kept later)
    ∙ ap (λ (t : List SeqState). acknowledge t (brought kept later))
    (sym (ticked_acknowledged (set ss q Outstanding) (brings (send q l) held)
    ∙ ap (λ (t : List SeqState). acknowledge t (brings (send q l) held)) (ticked_sent ss q next)))) in
    let counts = ap unacknowledged states in
    omega arith
  where
    one_more : suc (length (sends_on (after_send ss q (letter_of ls) held) (held_after (letter_of ls) q held) (drop 1 ls)))
        ≡ 1 + length (sends_on (after_send ss q (letter_of ls) held) (held_after (letter_of ls) q held) (drop 1 ls))
    one_more = omega arith

cost : (n : ℕ) (ss : List SeqState) (held : List ℕ) (ls : List Letter) → length (idle_from 0 ss) ≤ n → IsHeld ss held → Cost ss held ls
cost zero ss held ls few h = cost_none ss held ls (sends_none_idle ss held ls (nil (idle_from 0 ss) few))
  where
    nil : (qs : List ℕ) → length qs ≤ 0 → qs ≡ []
    nil [] few = refl
    nil (q ∷ qs) few = absurd (omega arith)
cost (suc n) ss held ls few h = elim (cases_lt (outstanding ss) 8) [
  | inl open_ ↦ elim (cases_lt 0 (length (idle_from 0 ss))) [
    | inl some ↦
        let f = first ss 0 some in
        cost_some n ss held ls f.q (record { room = open_; short = f.short; idle = f.idle; least = f.least }) h
        (λ after kept rest fewer k. cost n after kept rest (omega arith) k)
    | inr none ↦ cost_none ss held ls (sends_none_idle ss held ls (empty (idle_from 0 ss) none))
  ]
  | inr full ↦ cost_none ss held ls (sends_none_full ss held ls full)
]
  where
    empty : (qs : List ℕ) → length qs ≤ 0 → qs ≡ []
    empty [] few = refl
    empty (q ∷ qs) few = absurd (omega arith)

few_rounds : (n : ℕ) (ss : List SeqState) (ls : List Letter) → length (rounds n ss ls) ≤ 2 * length ls + unacknowledged ss
few_rounds zero ss ls = omega arith
few_rounds (suc n) ss ls
    = elim (all_acknowledged ss) as (λ b. length (cond b [] (round ss ls ++ rounds n (after_round ss ls) (letters_after ss ls)))
    ≤ 2 * length ls + unacknowledged ss) [
      | true ↦ omega arith
      | false ↦
          let one = cost (length (idle_from 0 ss)) ss [] ls (omega arith) tt in
          let rest = few_rounds n (after_round ss ls) (letters_after ss ls) in
          let long = length-append (round ss ls) (rounds n (after_round ss ls) (letters_after ss ls)) in
          omega arith
    ]

pub fewness : LawOfFewness
unfolding brought_in_all
fewness ss ls =
    let few = few_rounds (length ls + 2) ss ls in
    let long = length-map (rounds (length ls + 2) ss ls) (λ (d : Delivery). d.seq) in
    omega arith
