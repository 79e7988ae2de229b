-- Rounds come to an end.
use Rattle.std.proofs.Common.{◌≡◌, ℕ, zero, suc, ◌+◌, ◌<◌, ◌≤◌, Bool, true, false, cond, not, List, [], ◌∷◌, ◌++◌, length, set, map, refl, sym, ap, ◌∙◌, arith, length-drop, length-append, append_assoc, eqb-true}
use Rattle.std.specs.Prelude.{nat_eq}
use Rattle.std.specs.List.{count_by}
use Rattle.std.proofs.lemmas.List.{set_at}
use Rattle.lg_model.specs.declared.scenario.Letter.{Letter}
use Rattle.uploader_core.specs.declared.state.SeqState.{SeqState}
use Rattle.uploader_core.specs.declared.state.SeqState.TheVariants.{Idle, Outstanding, Acknowledged, Refused}
use Rattle.uploader_core.specs.States.{is_outstanding, outstanding, ticked, idle_again}
use Rattle.link_deliveries.specs.Waiting.{is_refused, idle_from, refusals, all_acknowledged}
use Rattle.link_deliveries.specs.Deliveries.{Delivery, heard, offered, brought, window, sends, round, rounds, after_round, letters_after, acknowledge, acknowledge_one, rounds_left}
use Rattle.link_deliveries.proofs.Idle.{count-cons}

-- a tick leaves nothing outstanding, and refuses none
pub ticked_out : (ss : List SeqState) → outstanding (ticked ss) ≡ 0
ticked_out [] = refl
ticked_out (s ∷ ss) =
    count-cons is_outstanding (idle_again s) (ticked ss) ∙ (ap (λ (n : ℕ). cond {A = ℕ} (is_outstanding (idle_again s)) 1 0 + n) (ticked_out ss)
    ∙ elim s as (λ x. cond {A = ℕ} (is_outstanding (idle_again x)) 1 0 + 0 ≡ 0) [ Idle ↦ refl | Outstanding ↦ refl | Acknowledged ↦ refl | Refused ↦ refl ])

pub ticked_refused : (ss : List SeqState) → refusals (ticked ss) ≡ refusals ss
ticked_refused [] = refl
ticked_refused (s ∷ ss) =
    count-cons is_refused (idle_again s) (ticked ss) ∙ (ap (λ (n : ℕ). cond {A = ℕ} (is_refused (idle_again s)) 1 0 + n) (ticked_refused ss)
    ∙ (elim s as (λ x. cond {A = ℕ} (is_refused (idle_again x)) 1 0 + refusals ss ≡ cond {A = ℕ} (is_refused x) 1 0 + refusals ss)
    [ Idle ↦ refl | Outstanding ↦ refl | Acknowledged ↦ refl | Refused ↦ refl ]
    ∙ sym (count-cons is_refused s ss)))

-- an acknowledge upload is in no count of others
pub count_down : (p : SeqState → Bool) (ss : List SeqState) (q : ℕ) → p Acknowledged ≡ false → count_by p (set ss q Acknowledged) ≤ count_by p ss
count_down p [] q not = omega arith
count_down p (s ∷ ss) zero not =
    let a = count-cons p Acknowledged ss in
    let b = count-cons p s ss in
    let c : cond {A = ℕ} (p Acknowledged) 1 0 ≡ 0 = ap (λ (x : Bool). cond {A = ℕ} x 1 0) not in
    omega arith
count_down p (s ∷ ss) (suc q) not =
    let a = count-cons p s (set ss q Acknowledged) in
    let b = count-cons p s ss in
    let c = count_down p ss q not in
    omega arith

pub acknowledged_down : (p : SeqState → Bool) (ss : List SeqState) (ds : List Delivery) → p Acknowledged ≡ false
    → count_by p (acknowledge ss ds) ≤ count_by p ss
acknowledged_down p ss [] not = omega arith
acknowledged_down p ss (d ∷ ds) not =
    let rest = acknowledged_down p (acknowledge_one ss d) ds not in
    let one : count_by p (acknowledge_one ss d) ≤ count_by p ss
    = elim d.heard as (λ b. count_by p (cond b (set ss d.seq Acknowledged) ss) ≤ count_by p ss) [
      | true ↦ count_down p ss d.seq not
      | false ↦ omega arith
    ] in
    omega arith

-- a round leaves nothing outstanding
pub after_out : (ss : List SeqState) (ls : List Letter) → outstanding (after_round ss ls) ≡ 0
after_out ss ls =
    let a = acknowledged_down is_outstanding (ticked ss) (round ss ls) refl in
    let b = ticked_out ss in
    omega arith

-- some upload is to be after_send, where none is outstanding or refusals and not all are acknowledge
some_idle : (ss : List SeqState) (n : ℕ) → all_acknowledged ss ≡ false → outstanding ss ≡ 0 → refusals ss ≡ 0 → 0 < length (idle_from n ss)
some_idle [] n all out ref = cc
some_idle (Idle ∷ ss) n all out ref = omega arith
some_idle (Outstanding ∷ ss) n all out ref = let a = count-cons is_outstanding Outstanding ss in absurd (omega arith)
some_idle (Acknowledged ∷ ss) n all out ref =
    let a = count-cons is_outstanding Acknowledged ss in
    let b = count-cons is_refused Acknowledged ss in
    some_idle ss (n + 1) all (omega arith) (omega arith)
some_idle (Refused ∷ ss) n all out ref = let a = count-cons is_refused Refused ss in absurd (omega arith)

-- then a round sends
some_send : (qs : List ℕ) (out : ℕ) (ls : List Letter) → out ≡ 0 → 0 < length qs → 0 < length (window out 0 (offered qs ls))
some_send [] out ls none some = absurd (omega arith)
some_send (q ∷ qs) out ls none some = rw none (omega arith)

-- past the last letter a round delivers all that are to be after_send, and no window closes
pub open_window : (qs : List ℕ) (out : ℕ) → out ≡ 0 → brought [] (window out 0 (offered qs [])) ≡ map heard qs
open_window [] out none = refl
open_window (q ∷ qs) out none = rw none (ap (λ (ds : List Delivery). heard q ∷ ds) (open_window qs 0 refl))

-- then all are acknowledge
all_on : (pre ss : List SeqState) → outstanding ss ≡ 0 → refusals ss ≡ 0
    → acknowledge (pre ++ ticked ss) (map heard (idle_from (length pre) ss)) ≡ pre ++ map (λ (s : SeqState). Acknowledged) ss
all_on pre [] out ref = refl
all_on pre (Idle ∷ ss) out ref =
    let a = count-cons is_outstanding Idle ss in
    let b = count-cons is_refused Idle ss in
    let on = all_on (pre ++ Acknowledged ∷ []) ss (omega arith) (omega arith) in
    let long : length (pre ++ Acknowledged ∷ []) ≡ length pre + 1 = length-append pre (Acknowledged ∷ []) in
    ap (λ (l : List SeqState). acknowledge l (map heard (idle_from (length pre + 1) ss)))
    (set_at pre Idle (ticked ss) Acknowledged (length pre) refl ∙ sym (append_assoc pre (Acknowledged ∷ []) (ticked ss)))
    ∙ (ap (λ (n : ℕ). acknowledge ((pre ++ Acknowledged ∷ []) ++ ticked ss) (map heard (idle_from n ss))) (sym long)
    ∙ (on ∙ append_assoc pre (Acknowledged ∷ []) (map (λ (s : SeqState). Acknowledged) ss)))
all_on pre (Outstanding ∷ ss) out ref = let a = count-cons is_outstanding Outstanding ss in absurd (omega arith)
all_on pre (Acknowledged ∷ ss) out ref =
    let a = count-cons is_outstanding Acknowledged ss in
    let b = count-cons is_refused Acknowledged ss in
    let on = all_on (pre ++ Acknowledged ∷ []) ss (omega arith) (omega arith) in
    let long : length (pre ++ Acknowledged ∷ []) ≡ length pre + 1 = length-append pre (Acknowledged ∷ []) in
    ap (λ (l : List SeqState). acknowledge l (map heard (idle_from (length pre + 1) ss))) (sym (append_assoc pre (Acknowledged ∷ []) (ticked ss)))
    ∙ (ap (λ (n : ℕ). acknowledge ((pre ++ Acknowledged ∷ []) ++ ticked ss) (map heard (idle_from n ss))) (sym long)
    ∙ (on ∙ append_assoc pre (Acknowledged ∷ []) (map (λ (s : SeqState). Acknowledged) ss)))
all_on pre (Refused ∷ ss) out ref = let a = count-cons is_refused Refused ss in absurd (omega arith)

all_are : (ss : List SeqState) → all_acknowledged (map (λ (s : SeqState). Acknowledged) ss) ≡ true
all_are [] = refl
all_are (s ∷ ss) = all_are ss

pub last_round : (ss : List SeqState) → outstanding ss ≡ 0 → refusals ss ≡ 0 → all_acknowledged (after_round ss []) ≡ true
last_round ss out ref =
    ap all_acknowledged (ap (λ (ds : List Delivery). acknowledge (ticked ss) ds) (open_window (idle_from 0 ss) (outstanding ss) out) ∙ all_on [] ss out ref)
    ∙ all_are ss

-- how many rounds are left, where nothing is outstanding
few_left : (ss : List SeqState) (ls : List Letter) → outstanding ss ≡ 0 → rounds_left ss ls ≤ length ls + 1
few_left ss ls none = elim (all_acknowledged ss) as (λ b. cond {A = ℕ} b 0 (length ls + cond {A = ℕ} (nat_eq (outstanding ss) 0) 1 2) ≤ length ls + 1) [
  | true ↦ omega arith
  | false ↦ rw none (omega arith)
]

none_left : (ss : List SeqState) (ls : List Letter) → all_acknowledged ss ≡ true → rounds_left ss ls ≡ 0
none_left ss ls all = rw all refl

progress_full : (ss : List SeqState) (ls : List Letter) → all_acknowledged ss ≡ false → nat_eq (outstanding ss) 0 ≡ false
    → rounds_left (after_round ss ls) (letters_after ss ls) < rounds_left ss ls
progress_full ss ls all some =
    let few = few_left (after_round ss ls) (letters_after ss ls) (after_out ss ls) in
    let short = length-drop (length (sends ss ls)) ls in
    let left : rounds_left ss ls ≡ length ls + 2 = rw (all, some) refl in
    omega arith

progress_none : (ss : List SeqState) (ls : List Letter) → all_acknowledged ss ≡ false → refusals ss ≡ 0 → outstanding ss ≡ 0
    → rounds_left (after_round ss ls) (letters_after ss ls) < rounds_left ss ls
progress_none ss [] all ref none =
    let end = none_left (after_round ss []) (letters_after ss []) (last_round ss none ref) in
    let left : rounds_left ss [] ≡ 1 = rw (all, none) refl in
    omega arith
progress_none ss (l ∷ ls) all ref none =
    let few = few_left (after_round ss (l ∷ ls)) (letters_after ss (l ∷ ls)) (after_out ss (l ∷ ls)) in
    let short = length-drop (length (sends ss (l ∷ ls))) (l ∷ ls) in
    let some = some_send (idle_from 0 ss) (outstanding ss) (l ∷ ls) none (some_idle ss 0 all none ref) in
    let left : rounds_left ss (l ∷ ls) ≡ suc (length ls) + 1 = rw (all, none) refl in
    omega arith

-- each round leaves fewer
pub progress : (ss : List SeqState) (ls : List Letter) → all_acknowledged ss ≡ false → refusals ss ≡ 0
    → rounds_left (after_round ss ls) (letters_after ss ls) < rounds_left ss ls
progress ss ls all ref =
    (elim (nat_eq (outstanding ss) 0) as (λ b. nat_eq (outstanding ss) 0 ≡ b → rounds_left (after_round ss ls) (letters_after ss ls) < rounds_left ss ls) [
      | true ↦ λ is. progress_none ss ls all ref (eqb-true (outstanding ss) 0 is)
      | false ↦ λ is. progress_full ss ls all is
    ]) refl

-- the rounds from where not all are acknowledge: one, and the rest
pub record OneRound (n : ℕ) (ss : List SeqState) (ls : List Letter) : Type 0 where
  pub rest : ℕ
  pub is : rounds n ss ls ≡ round ss ls ++ rounds rest (after_round ss ls) (letters_after ss ls)
  pub enough : rounds_left (after_round ss ls) (letters_after ss ls) ≤ rest
  pub fewer : rounds_left (after_round ss ls) (letters_after ss ls) < rounds_left ss ls

pub one_round : (n : ℕ) (ss : List SeqState) (ls : List Letter) → all_acknowledged ss ≡ false → refusals ss ≡ 0 → rounds_left ss ls ≤ n → OneRound n ss ls
one_round zero ss ls all ref enough = let p = progress ss ls all ref in absurd (omega arith)
one_round (suc n) ss ls all ref enough =
    let p = progress ss ls all ref in
    record {
      rest = n;
      is = ap (λ (b : Bool). cond b [] (round ss ls ++ rounds n (after_round ss ls) (letters_after ss ls))) all;
      enough = omega arith;
      fewer = p;
    }

pub no_round : (n : ℕ) (ss : List SeqState) (ls : List Letter) → all_acknowledged ss ≡ true → rounds n ss ls ≡ []
no_round zero ss ls all = refl
no_round (suc n) ss ls all = ap (λ (b : Bool). cond b [] (round ss ls ++ rounds n (after_round ss ls) (letters_after ss ls))) all

pub enough_rounds : (ss : List SeqState) (ls : List Letter) → rounds_left ss ls ≤ length ls + 2
enough_rounds ss ls = elim (all_acknowledged ss) as (λ b. cond {A = ℕ} b 0 (length ls + cond {A = ℕ} (nat_eq (outstanding ss) 0) 1 2) ≤ length ls + 2) [
  | true ↦ omega arith
  | false ↦ elim (nat_eq (outstanding ss) 0) as (λ b. length ls + cond {A = ℕ} b 1 2 ≤ length ls + 2) [ true ↦ omega arith | false ↦ omega arith ]
]
