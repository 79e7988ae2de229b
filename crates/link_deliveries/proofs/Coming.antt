-- The laws of the deliveries.
use Rattle.std.proofs.Common.{◌≡◌, ℕ, zero, suc, ◌+◌, ◌<◌, ◌≤◌, Bool, true, false, cond, List, [], ◌∷◌, ◌++◌, length, get_or, set, drop, map, refl, sym, ap, subst, ◌∙◌, arith, length-set, append-nil, append_assoc, length-append}
use Rattle.std.specs.Prelude.{All, Contains, nat_lt}
use Rattle.std.proofs.lemmas.List.{length-map, get_or_at}
use Rattle.std.proofs.lemmas.List.Sums.{fold-append, AllPass-from_list_all}
use Rattle.std.proofs.lemmas.List.Elements.{All-nil, All-cons, All-head, All-tail, All-append, All-weaker, All-map, All-contains_itself}
use Rattle.lg_model.specs.declared.scenario.Letter.{Letter}
use Rattle.uploader_core.specs.declared.state.SeqState.{SeqState}
use Rattle.uploader_core.specs.declared.state.SeqState.TheVariants.{Idle, Outstanding, Acknowledged, Refused}
use Rattle.uploader_core.specs.States.{is_idle, is_outstanding, is_acknowledged, outstanding, ticked, idle_again}
use Rattle.link_deliveries.specs.Waiting.{is_refused, idle_from, refusals, all_acknowledged}
use Rattle.link_deliveries.specs.Deliveries.{Send, Delivery, send, heard, unheard, letter_of, offered, at_once, let_go, held_after, brings, brought, out_after, count_held, window, sends, round, rounds, rounds_left, after_round, letters_after, acknowledge, acknowledge_one, brought_in_all}
use Rattle.lg_model.specs.declared.scenario.Letter.TheVariants.{Deliver, Lose, LoseReply, Twice, Hold}
use Rattle.link_deliveries.specs.Laws.{Waits, LawOfDeliveries, LawOfNoLetters}
use Rattle.link_deliveries.proofs.Idle.{count-cons}
use Rattle.link_deliveries.proofs.Progress.{acknowledged_down, ticked_refused, after_out, one_round, no_round, enough_rounds, open_window, last_round}
use Rattle.link_deliveries.proofs.Acked.{acked_from, stays}

abbrev numbers : List Delivery → List ℕ
numbers ds = map (λ (d : Delivery). d.seq) ds

-- a tick, where nothing is outstanding
ticked_none : (ss : List SeqState) → outstanding ss ≡ 0 → ticked ss ≡ ss
ticked_none [] none = refl
ticked_none (s ∷ ss) none =
    let a = count-cons is_outstanding s ss in
    let rest = ticked_none ss (omega arith) in
    (elim s as (λ x. cond {A = ℕ} (is_outstanding x) 1 0 + outstanding ss ≡ 0 → idle_again x ∷ ticked ss ≡ x ∷ ss) [
      | Idle ↦ λ h. ap (λ (l : List SeqState). Idle ∷ l) rest
      | Outstanding ↦ λ h. absurd (omega arith)
      | Acknowledged ↦ λ h. ap (λ (l : List SeqState). Acknowledged ∷ l) rest
      | Refused ↦ λ h. ap (λ (l : List SeqState). Refused ∷ l) rest
    ]) (sym a ∙ none)

ticked_all : (ss : List SeqState) → all_acknowledged ss ≡ true → all_acknowledged (ticked ss) ≡ true
ticked_all [] all = refl
ticked_all (s ∷ ss) all = (elim s as (λ x. all_acknowledged (x ∷ ss) ≡ true → all_acknowledged (idle_again x ∷ ticked ss) ≡ true) [
  | Idle ↦ λ h. absurd cc
  | Outstanding ↦ λ h. absurd cc
  | Acknowledged ↦ λ h. ticked_all ss h
  | Refused ↦ λ h. absurd cc
]) all

ticked_at : (ss : List SeqState) (q : ℕ) → is_acknowledged (get_or (ticked ss) q Refused) ≡ is_acknowledged (get_or ss q Refused)
ticked_at [] q = refl
ticked_at (s ∷ ss) zero =
    elim s as (λ x. is_acknowledged (idle_again x) ≡ is_acknowledged x) [ Idle ↦ refl | Outstanding ↦ refl | Acknowledged ↦ refl | Refused ↦ refl ]
ticked_at (s ∷ ss) (suc q) = ticked_at ss q

-- enough rounds acknowledge all: one round, and the rest
more : (n : ℕ) (ss : List SeqState) (ls : List Letter) → refusals ss ≡ 0 → rounds_left ss ls ≤ suc n → all_acknowledged ss ≡ false
    → (refusals (after_round ss ls) ≡ 0 → rounds_left (after_round ss ls) (letters_after ss ls) ≤ n
    → all_acknowledged (acknowledge (ticked (after_round ss ls)) (rounds n (after_round ss ls) (letters_after ss ls))) ≡ true)
    → all_acknowledged (acknowledge (ticked ss) (rounds (suc n) ss ls)) ≡ true
more n ss ls none enough some rest =
    let one = one_round (suc n) ss ls some none enough in
    let f = one.fewer in
    let down = acknowledged_down is_refused (ticked ss) (round ss ls) refl in
    let same = ticked_refused ss in
    let next = after_round ss ls in
    let still = ticked_none next (after_out ss ls) in
    let here : rounds (suc n) ss ls ≡ round ss ls ++ rounds n next (letters_after ss ls)
    = ap (λ (b : Bool). cond b [] (round ss ls ++ rounds n next (letters_after ss ls))) some in
    ap (λ (ds : List Delivery). all_acknowledged (acknowledge (ticked ss) ds)) here
    ∙ (ap all_acknowledged (fold-append acknowledge_one (ticked ss) (round ss ls) (rounds n next (letters_after ss ls)))
    ∙ (ap (λ (l : List SeqState). all_acknowledged (acknowledge l (rounds n next (letters_after ss ls)))) (sym still) ∙ rest (omega arith) (omega arith)))

ends : (n : ℕ) (ss : List SeqState) (ls : List Letter) → refusals ss ≡ 0 → rounds_left ss ls ≤ n
    → all_acknowledged (acknowledge (ticked ss) (rounds n ss ls)) ≡ true
ends zero ss ls none enough = (elim (all_acknowledged ss) as (λ b. all_acknowledged ss ≡ b → all_acknowledged (ticked ss) ≡ true) [
  | true ↦ λ all. ticked_all ss all
  | false ↦ λ some. let one = one_round 0 ss ls some none enough in let f = one.fewer in absurd (omega arith)
]) refl
ends (suc n) ss ls none enough =
    (elim (all_acknowledged ss) as (λ b. all_acknowledged ss ≡ b → all_acknowledged (acknowledge (ticked ss) (rounds (suc n) ss ls)) ≡ true) [
      | true ↦ λ all. ap (λ (ds : List Delivery). all_acknowledged (acknowledge (ticked ss) ds)) (no_round (suc n) ss ls all) ∙ ticked_all ss all
      | false ↦ λ some. more n ss ls none enough some (ends n (after_round ss ls) (letters_after ss ls))
    ]) refl

-- what is idle waits
idle_wait : (pre ss : List SeqState) → All (Waits (pre ++ ss)) (idle_from (length pre) ss)
idle_wait pre [] = All-nil (Waits (pre ++ []))
idle_wait pre (s ∷ ss) =
    let on : All (Waits (pre ++ s ∷ ss)) (idle_from (length pre + 1) ss)
    = subst (λ n. All (Waits (pre ++ s ∷ ss)) (idle_from n ss)) (length-append pre (s ∷ []))
    (subst (λ l. All (Waits l) (idle_from (length (pre ++ s ∷ [])) ss)) (append_assoc pre (s ∷ []) ss) (idle_wait (pre ++ s ∷ []) ss)) in
    (elim s as (λ x. All (Waits (pre ++ x ∷ ss)) (idle_from (length pre + 1) ss)
    → All (Waits (pre ++ x ∷ ss)) (cond (is_idle x) (length pre ∷ idle_from (length pre + 1) ss) (idle_from (length pre + 1) ss))) [
      | Idle ↦ λ l. All-cons (Waits (pre ++ Idle ∷ ss)) (length pre) (idle_from (length pre + 1) ss)
          (record { short = simp length-append (omega arith); waits = ap is_acknowledged (get_or_at pre Idle ss Refused (length pre) refl) }) l
      | Outstanding ↦ λ l. l
      | Acknowledged ↦ λ l. l
      | Refused ↦ λ l. l
    ]) on

-- a round brings uploads that it sends, or held before
offered_all : (P : ℕ → Type 0) (qs : List ℕ) (ls : List Letter) → All P qs → All (λ (s : Send). P s.seq) (offered qs ls)
offered_all P [] ls all = All-nil (λ (s : Send). P s.seq)
offered_all P (q ∷ qs) ls all = All-cons (λ (s : Send). P s.seq) (send q (letter_of ls)) (offered qs (drop 1 ls)) (All-head P q qs all)
    (offered_all P qs (drop 1 ls) (All-tail P q qs all))

window_all : (P : Send → Type 0) (out held : ℕ) (ss : List Send) → All P ss → All P (window out held ss)
window_all P out held [] all = All-nil P
window_all P out held (s ∷ ss) all = elim (nat_lt out 8) as (λ b. All P (cond b (s ∷ window (out_after s.letter out held) (count_held s.letter held) ss) [])) [
  | true ↦ All-cons P s (window (out_after s.letter out held) (count_held s.letter held) ss) (All-head P s ss all)
      (window_all P (out_after s.letter out held) (count_held s.letter held) ss (All-tail P s ss all))
  | false ↦ All-nil P
]

heard_all : (P : ℕ → Type 0) (qs : List ℕ) → All P qs → All (λ (d : Delivery). P d.seq) (map heard qs)
heard_all P [] all = All-nil (λ (d : Delivery). P d.seq)
heard_all P (q ∷ qs) all = All-cons (λ (d : Delivery). P d.seq) (heard q) (map heard qs) (All-head P q qs all) (heard_all P qs (All-tail P q qs all))

at_once_all : (P : ℕ → Type 0) (l : Letter) (q : ℕ) → P q → All (λ (d : Delivery). P d.seq) (at_once l q)
at_once_all P Deliver q p = heard_all P (q ∷ []) (All-cons P q [] p (All-nil P))
at_once_all P Lose q p = All-nil (λ (d : Delivery). P d.seq)
at_once_all P LoseReply q p = All-cons (λ (d : Delivery). P d.seq) (unheard q) [] p (All-nil (λ (d : Delivery). P d.seq))
at_once_all P Twice q p = heard_all P (q ∷ q ∷ []) (All-cons P q (q ∷ []) p (All-cons P q [] p (All-nil P)))
at_once_all P Hold q p = All-nil (λ (d : Delivery). P d.seq)

let_go_all : (P : ℕ → Type 0) (l : Letter) (held : List ℕ) → All P held → All P (let_go l held)
let_go_all P Deliver held all = all
let_go_all P Lose held all = All-nil P
let_go_all P LoseReply held all = all
let_go_all P Twice held all = all
let_go_all P Hold held all = All-nil P

held_after_all : (P : ℕ → Type 0) (l : Letter) (q : ℕ) (held : List ℕ) → P q → All P held → All P (held_after l q held)
held_after_all P Deliver q held p all = All-nil P
held_after_all P Lose q held p all = all
held_after_all P LoseReply q held p all = All-nil P
held_after_all P Twice q held p all = All-nil P
held_after_all P Hold q held p all = All-append P held (q ∷ []) all (All-cons P q [] p (All-nil P))

brought_all : (P : ℕ → Type 0) (held : List ℕ) (ss : List Send) → All P held → All (λ (s : Send). P s.seq) ss
    → All (λ (d : Delivery). P d.seq) (brought held ss)
brought_all P held [] h all = heard_all P held h
brought_all P held (s ∷ ss) h all =
    let p = All-head (λ (x : Send). P x.seq) s ss all in
    All-append (λ (d : Delivery). P d.seq) (brings s held) (brought (held_after s.letter s.seq held) ss)
    (All-append (λ (d : Delivery). P d.seq) (at_once s.letter s.seq) (map heard (let_go s.letter held)) (at_once_all P s.letter s.seq p)
    (heard_all P (let_go s.letter held) (let_go_all P s.letter held h)))
    (brought_all P (held_after s.letter s.seq held) ss (held_after_all P s.letter s.seq held p h) (All-tail (λ (x : Send). P x.seq) s ss all))

round_waits : (ss : List SeqState) (ls : List Letter) → All (λ (d : Delivery). Waits ss d.seq) (round ss ls)
round_waits ss ls = brought_all (Waits ss) [] (sends ss ls) (All-nil (Waits ss))
    (window_all (λ (s : Send). Waits ss s.seq) (outstanding ss) 0 (offered (idle_from 0 ss) ls) (offered_all (Waits ss) (idle_from 0 ss) ls (idle_wait [] ss)))

length_all : (ss : List SeqState) (ds : List Delivery) → length (acknowledge ss ds) ≡ length ss
length_all ss [] = refl
length_all ss (d ∷ ds) = length_all (acknowledge_one ss d) ds
    ∙ (elim d.heard as (λ b. length (cond b (set ss d.seq Acknowledged) ss) ≡ length ss) [ true ↦ length-set ss d.seq Acknowledged | false ↦ refl ])

-- what waits after a round waited before it
waited : (ss : List SeqState) (ls : List Letter) (q : ℕ) → Waits (after_round ss ls) q → Waits ss q
waited ss ls q w =
    let long : length (after_round ss ls) ≡ length ss = length_all (ticked ss) (round ss ls) ∙ length-map ss idle_again in
    let a = w.short in
    let short : q < length ss = omega arith in
    record {
      short = short;
      waits = (elim (is_acknowledged (get_or ss q Refused)) as (λ b. is_acknowledged (get_or ss q Refused) ≡ b → b ≡ false) [
        | true ↦ λ is. let now = stays (ticked ss) (round ss ls) q (let t = length-map ss idle_again in omega arith) (ticked_at ss q ∙ is) in sym now ∙ w.waits
        | false ↦ λ is. refl
      ]) refl;
    }

only : (n : ℕ) (ss : List SeqState) (ls : List Letter) → All (λ (d : Delivery). Waits ss d.seq) (rounds n ss ls)
only zero ss ls = All-nil (λ (d : Delivery). Waits ss d.seq)
only (suc n) ss ls
    = elim (all_acknowledged ss) as (λ b. All (λ (d : Delivery). Waits ss d.seq)
    (cond b [] (round ss ls ++ rounds n (after_round ss ls) (letters_after ss ls)))) [
      | true ↦ All-nil (λ (d : Delivery). Waits ss d.seq)
      | false ↦ All-append (λ (d : Delivery). Waits ss d.seq) (round ss ls) (rounds n (after_round ss ls) (letters_after ss ls)) (round_waits ss ls)
          (All-weaker (λ (d : Delivery). Waits (after_round ss ls) d.seq) (λ (d : Delivery). Waits ss d.seq) (λ d w. waited ss ls d.seq w)
          (rounds n (after_round ss ls) (letters_after ss ls)) (only n (after_round ss ls) (letters_after ss ls)))
    ]

unmap : (P : ℕ → Type 0) (ds : List Delivery) → All P (numbers ds) → All (λ (d : Delivery). P d.seq) ds
unmap P [] all = All-nil (λ (d : Delivery). P d.seq)
unmap P (d ∷ ds) all = All-cons (λ (x : Delivery). P x.seq) d ds (All-head P d.seq (numbers ds) all) (unmap P ds (All-tail P d.seq (numbers ds) all))

pub law : LawOfDeliveries
unfolding brought_in_all
law ss ls none =
    let n = length ls + 2 in
    let end = ends n ss ls none (enough_rounds ss ls) in
    record {
      all = λ q w.
          let ds = rounds n ss ls in
          let short = w.short in
          let long = length_all (ticked ss) ds in
          let t = length-map ss idle_again in
          let now : is_acknowledged (get_or (acknowledge (ticked ss) ds) q Refused) ≡ true
          = AllPass-from_list_all is_acknowledged (acknowledge (ticked ss) ds) end q Refused (omega arith) in
          acked_from (λ (k : ℕ). Contains (numbers ds) k) (ticked ss) ds q (unmap (λ (k : ℕ). Contains (numbers ds) k) ds (All-contains_itself (numbers ds)))
          (λ was. let e : true ≡ false = sym was ∙ (ticked_at ss q ∙ w.waits) in absurd cc) now;
      only = All-map (Waits ss) (λ (d : Delivery). d.seq) (rounds n ss ls) (only n ss ls);
      ends = end;
    }

idle_acked : (ss : List SeqState) (n : ℕ) → all_acknowledged ss ≡ true → idle_from n ss ≡ []
idle_acked [] n all = refl
idle_acked (Idle ∷ ss) n all = absurd cc
idle_acked (Outstanding ∷ ss) n all = absurd cc
idle_acked (Acknowledged ∷ ss) n all = idle_acked ss (n + 1) all
idle_acked (Refused ∷ ss) n all = absurd cc

numbers_heard : (qs : List ℕ) → numbers (map heard qs) ≡ qs
numbers_heard [] = refl
numbers_heard (q ∷ qs) = ap (λ (l : List ℕ). q ∷ l) (numbers_heard qs)

pub no_letters : LawOfNoLetters
unfolding brought_in_all
no_letters ss out none = (elim (all_acknowledged ss) as (λ b. all_acknowledged ss ≡ b → numbers (rounds 2 ss []) ≡ idle_from 0 ss) [
  | true ↦ λ all. ap numbers (no_round 2 ss [] all) ∙ sym (idle_acked ss 0 all)
  | false ↦ λ some.
      let first : round ss [] ≡ map heard (idle_from 0 ss) = open_window (idle_from 0 ss) (outstanding ss) out in
      let rest : rounds 1 (after_round ss []) (letters_after ss []) ≡ [] = no_round 1 (after_round ss []) (letters_after ss []) (last_round ss out none) in
      let both : rounds 2 ss [] ≡ map heard (idle_from 0 ss)
      = ap (λ (b : Bool). cond b [] (round ss [] ++ rounds 1 (after_round ss []) (letters_after ss []))) some
      ∙ (ap (λ (l : List Delivery). round ss [] ++ l) rest ∙ (append-nil (round ss []) ∙ first)) in
      ap numbers both ∙ numbers_heard (idle_from 0 ss)
]) refl
