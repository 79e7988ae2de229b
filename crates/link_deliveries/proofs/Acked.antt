-- Which uploads deliveries acknowledge.
use Rattle.std.proofs.Common.{◌≡◌, ◌≢◌, ℕ, zero, suc, ◌+◌, ◌<◌, Bool, true, false, cond, List, [], ◌∷◌, ◌++◌, length, get_or, set, drop, map, refl, sym, ap, subst, ◌∙◌, arith, length-set, get_or-set_same, get_or-set_other, eqb, eqb-true, eq-eqb}
use Rattle.std.specs.Prelude.{All, nat_lt}
use Rattle.std.proofs.lemmas.List.Elements.{All-head, All-tail, All-cons, All-nil, All-append, All-drop}
use Rattle.lg_model.specs.declared.scenario.Letter.{Letter}
use Rattle.lg_model.specs.declared.scenario.Letter.TheVariants.{Deliver, Lose, LoseReply, Twice, Hold}
use Rattle.uploader_core.specs.declared.state.SeqState.{SeqState}
use Rattle.uploader_core.specs.declared.state.SeqState.TheVariants.{Acknowledged, Refused}
use Rattle.uploader_core.specs.States.{is_acknowledged, outstanding}
use Rattle.link_deliveries.specs.Waiting.{idle_from, all_acknowledged}
use Rattle.link_deliveries.specs.Deliveries.{Send, Delivery, send, heard, letter_of, offered, at_once, let_go, held_after, brings, brought, out_after, count_held, window, sends, round, rounds, after_round, letters_after, acknowledge, acknowledge_one, brought_in_all}

length_one : (ss : List SeqState) (d : Delivery) → length (acknowledge_one ss d) ≡ length ss
length_one ss d = elim d.heard as (λ b. length (cond b (set ss d.seq Acknowledged) ss) ≡ length ss) [ true ↦ length-set ss d.seq Acknowledged | false ↦ refl ]

-- what is acknowledge stays so
stays_one : (ss : List SeqState) (d : Delivery) (q : ℕ) → q < length ss → is_acknowledged (get_or ss q Refused) ≡ true
    → is_acknowledged (get_or (acknowledge_one ss d) q Refused) ≡ true
stays_one ss d q short was = elim d.heard as (λ b. is_acknowledged (get_or (cond b (set ss d.seq Acknowledged) ss) q Refused) ≡ true) [
  | true ↦ (elim (eqb q d.seq) as (λ b. eqb q d.seq ≡ b → is_acknowledged (get_or (set ss d.seq Acknowledged) q Refused) ≡ true) [
    | true ↦ λ is. let same = eqb-true q d.seq is in
        ap (λ (n : ℕ). is_acknowledged (get_or (set ss n Acknowledged) q Refused)) (sym same)
        ∙ ap is_acknowledged (get_or-set_same ss q Acknowledged Refused short)
    | false ↦ λ is. ap is_acknowledged (get_or-set_other ss d.seq q Acknowledged Refused (λ e. let t = eq-eqb q d.seq e in cc)) ∙ was
  ]) refl
  | false ↦ was
]

pub stays : (ss : List SeqState) (ds : List Delivery) (q : ℕ) → q < length ss → is_acknowledged (get_or ss q Refused) ≡ true
    → is_acknowledged (get_or (acknowledge ss ds) q Refused) ≡ true
stays ss [] q short was = was
stays ss (d ∷ ds) q short was = let l = length_one ss d in stays (acknowledge_one ss d) ds q (omega arith) (stays_one ss d q short was)

-- an upload whose reply is heard is acknowledge
pub hears : (ss : List SeqState) (earlier later : List Delivery) (d : Delivery) → d.seq < length ss → d.heard ≡ true
    → is_acknowledged (get_or (acknowledge ss (earlier ++ d ∷ later)) d.seq Refused) ≡ true
hears ss [] later d short is =
    let one : is_acknowledged (get_or (acknowledge_one ss d) d.seq Refused)
    ≡ true = ap (λ (b : Bool). is_acknowledged (get_or (cond b (set ss d.seq Acknowledged) ss) d.seq Refused)) is
    ∙ ap is_acknowledged (get_or-set_same ss d.seq Acknowledged Refused short) in
    let l = length_one ss d in
    stays (acknowledge_one ss d) later d.seq (omega arith) one
hears ss (x ∷ earlier) later d short is = let l = length_one ss x in hears (acknowledge_one ss x) earlier later d (omega arith) is

-- what is acknowledge was so before, or is one of the deliveries
pub acked_from : (P : ℕ → Type 0) (ss : List SeqState) (ds : List Delivery) (q : ℕ) → All (λ (d : Delivery). P d.seq) ds
    → (is_acknowledged (get_or ss q Refused) ≡ true → P q) → is_acknowledged (get_or (acknowledge ss ds) q Refused) ≡ true → P q
acked_from P ss [] q all was is = was is
acked_from P ss (d ∷ ds) q all was is = acked_from P (acknowledge_one ss d) ds q (All-tail (λ (x : Delivery). P x.seq) d ds all)
    (elim d.heard as (λ b. is_acknowledged (get_or (cond b (set ss d.seq Acknowledged) ss) q Refused) ≡ true → P q) [
      | true ↦ λ now. (elim (eqb q d.seq) as (λ b. eqb q d.seq ≡ b → P q) [
        | true ↦ λ same. subst P (sym (eqb-true q d.seq same)) (All-head (λ (x : Delivery). P x.seq) d ds all)
        | false ↦ λ other. was (sym (ap is_acknowledged (get_or-set_other ss d.seq q Acknowledged Refused (λ e. let t = eq-eqb q d.seq e in cc))) ∙ now)
      ]) refl
      | false ↦ was
    ]) is

-- Where no letter loses a reply, each reply is heard.
abbrev Kept : Letter → Type 0
Kept l = l ≢ LoseReply

letter_kept : (ls : List Letter) → All Kept ls → Kept (letter_of ls)
letter_kept [] all = λ e. cc
letter_kept (l ∷ ls) all = All-head Kept l ls all

offered_kept : (qs : List ℕ) (ls : List Letter) → All Kept ls → All (λ (s : Send). Kept s.letter) (offered qs ls)
offered_kept [] ls all = All-nil (λ (s : Send). Kept s.letter)
offered_kept (q ∷ qs) ls all = All-cons (λ (s : Send). Kept s.letter) (send q (letter_of ls)) (offered qs (drop 1 ls)) (letter_kept ls all)
    (offered_kept qs (drop 1 ls) (All-drop Kept 1 ls all))

window_kept : (out held : ℕ) (ss : List Send) → All (λ (s : Send). Kept s.letter) ss → All (λ (s : Send). Kept s.letter) (window out held ss)
window_kept out held [] all = All-nil (λ (s : Send). Kept s.letter)
window_kept out held (s ∷ ss) all =
    elim (nat_lt out 8) as (λ b. All (λ (x : Send). Kept x.letter) (cond b (s ∷ window (out_after s.letter out held) (count_held s.letter held) ss) [])) [
      | true ↦ All-cons (λ (x : Send). Kept x.letter) s (window (out_after s.letter out held) (count_held s.letter held) ss)
          (All-head (λ (x : Send). Kept x.letter) s ss all)
          (window_kept (out_after s.letter out held) (count_held s.letter held) ss (All-tail (λ (x : Send). Kept x.letter) s ss all))
      | false ↦ All-nil (λ (x : Send). Kept x.letter)
    ]

abbrev pub IsHeard : Delivery → Type 0
IsHeard d = d.heard ≡ true

all_heard : (qs : List ℕ) → All IsHeard (map heard qs)
all_heard [] = All-nil IsHeard
all_heard (q ∷ qs) = All-cons IsHeard (heard q) (map heard qs) refl (all_heard qs)

at_once_heard : (l : Letter) (q : ℕ) → Kept l → All IsHeard (at_once l q)
at_once_heard Deliver q k = all_heard (q ∷ [])
at_once_heard Lose q k = All-nil IsHeard
at_once_heard LoseReply q k = absurd (k refl)
at_once_heard Twice q k = all_heard (q ∷ q ∷ [])
at_once_heard Hold q k = All-nil IsHeard

brought_heard : (held : List ℕ) (ss : List Send) → All (λ (s : Send). Kept s.letter) ss → All IsHeard (brought held ss)
brought_heard held [] all = all_heard held
brought_heard held (s ∷ ss) all =
    All-append IsHeard (brings s held) (brought (held_after s.letter s.seq held) ss)
    (All-append IsHeard (at_once s.letter s.seq) (map heard (let_go s.letter held))
    (at_once_heard s.letter s.seq (All-head (λ (x : Send). Kept x.letter) s ss all)) (all_heard (let_go s.letter held)))
    (brought_heard (held_after s.letter s.seq held) ss (All-tail (λ (x : Send). Kept x.letter) s ss all))

round_heard : (ss : List SeqState) (ls : List Letter) → All Kept ls → All IsHeard (round ss ls)
round_heard ss ls all = brought_heard [] (sends ss ls) (window_kept (outstanding ss) 0 (offered (idle_from 0 ss) ls) (offered_kept (idle_from 0 ss) ls all))

rounds_heard : (n : ℕ) (ss : List SeqState) (ls : List Letter) → All Kept ls → All IsHeard (rounds n ss ls)
rounds_heard zero ss ls all = All-nil IsHeard
rounds_heard (suc n) ss ls all =
    elim (all_acknowledged ss) as (λ b. All IsHeard (cond b [] (round ss ls ++ rounds n (after_round ss ls) (letters_after ss ls)))) [
      | true ↦ All-nil IsHeard
      | false ↦ All-append IsHeard (round ss ls) (rounds n (after_round ss ls) (letters_after ss ls)) (round_heard ss ls all)
          (rounds_heard n (after_round ss ls) (letters_after ss ls) (All-drop Kept (length (sends ss ls)) ls all))
    ]

pub each_heard : (ss : List SeqState) (ls : List Letter) → All (λ (l : Letter). l ≢ LoseReply) ls → All IsHeard (brought_in_all ss ls)
unfolding brought_in_all
each_heard ss ls all = rounds_heard (length ls + 2) ss ls all
