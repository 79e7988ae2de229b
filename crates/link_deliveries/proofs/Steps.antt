-- A round, send by send.
use Rattle.std.proofs.Common.{◌≡◌, ℕ, suc, ◌+◌, ◌<◌, ◌≤◌, Bool, true, false, cond, List, [], ◌∷◌, ◌++◌, length, get_or, set, drop, map, refl, sym, ap, ◌∙◌, arith, set-set, drop-drop, length-append, lt-ltb, le-ltb, append_assoc}
use Rattle.std.specs.Prelude.{nat_lt}
use Rattle.std.proofs.lemmas.List.{map-set, set-get_or}
use Rattle.std.proofs.lemmas.List.Sums.{fold-append}
use Rattle.lg_model.specs.declared.scenario.Letter.{Letter}
use Rattle.lg_model.specs.declared.scenario.Letter.TheVariants.{Deliver, Lose, LoseReply, Twice, Hold}
use Rattle.uploader_core.specs.declared.state.SeqState.{SeqState}
use Rattle.uploader_core.specs.declared.state.SeqState.TheVariants.{Idle, Outstanding, Acknowledged, Refused}
use Rattle.uploader_core.specs.States.{is_idle, is_outstanding, outstanding, ticked, idle_again}
use Rattle.link_deliveries.specs.Waiting.{idle_from, IsNext}
use Rattle.link_deliveries.specs.Deliveries.{Send, Delivery, send, heard, letter_of, offered, brings, brought, held_after, count_held, out_after, window, round, letters_after, acknowledge, acknowledge_one, IsHeld, EndsRound, after_send}
use Rattle.link_deliveries.proofs.Idle.{idle_head, count-set}
use Rattle.link_deliveries.proofs.Held.{held_else, held_more, held_idle, held_out}

-- The sends that a round still has, from the states and what is held.
abbrev pub sends_on : List SeqState → List ℕ → List Letter → List Send
sends_on ss held ls = window (outstanding ss) (length held) (offered (idle_from 0 ss) ls)

-- one state more
idle_on : (ss : List SeqState) (q : ℕ) (x : SeqState) → IsNext ss q → is_idle x ≡ false → idle_from 0 ss ≡ q ∷ idle_from 0 (set ss q x)
idle_on ss q x n not = idle_head ss 0 q Refused x n.short (ap is_idle n.idle) n.least not ∙ ap (λ (k : ℕ). k ∷ idle_from 0 (set ss q x)) (omega arith)

out_on : (ss : List SeqState) (q : ℕ) (x : SeqState) → IsNext ss q → outstanding (set ss q x) ≡ outstanding ss + cond {A = ℕ} (is_outstanding x) 1 0
out_on ss q x n =
    let one = count-set is_outstanding ss q Refused x n.short in
    let was : cond {A = ℕ} (is_outstanding (get_or ss q Refused)) 1 0 ≡ 0 = ap (λ (s : SeqState). cond {A = ℕ} (is_outstanding s) 1 0) n.idle in
    omega arith

-- What a send leaves: who is idle, how many are outstanding, and what is held.
record Leaves (ss : List SeqState) (q : ℕ) (held : List ℕ) (l : Letter) : Type 0 where
  idle : idle_from 0 ss ≡ q ∷ idle_from 0 (after_send ss q l held)
  out : outstanding (after_send ss q l held) ≡ out_after l (outstanding ss) (length held)
  count : length (held_after l q held) ≡ count_held l (length held)
  kept : IsHeld (after_send ss q l held) (held_after l q held)

-- all that was held is acknowledge with the upload after_send
lets_go : (ss : List SeqState) (q : ℕ) (x : SeqState) (held : List ℕ) (after : List SeqState) → IsNext ss q → IsHeld ss held → is_idle x ≡ false
    → after ≡ acknowledge (set ss q x) (map heard held)
    → (idle_from 0 ss ≡ q ∷ idle_from 0 after) × (outstanding after + length held ≡ outstanding ss + cond {A = ℕ} (is_outstanding x) 1 0)
    × (length held ≤ outstanding ss)
lets_go ss q x held after n h not is =
    let kept = held_else ss q x held n.idle h in
    let gone = held_out (set ss q x) held kept in
    let all = held_out ss held h in
    let one = out_on ss q x n in
    let outs : outstanding after + length held ≡ outstanding ss + cond {A = ℕ} (is_outstanding x) 1 0 = rw is (gone ∙ one) in
    (rw is (idle_on ss q x n not ∙ ap (λ (l : List ℕ). q ∷ l) (sym (held_idle (set ss q x) held kept))), outs, omega arith)

leaves : (ss : List SeqState) (q : ℕ) (held : List ℕ) (l : Letter) → IsNext ss q → IsHeld ss held → Leaves ss q held l
leaves ss q held Deliver n h =
    let g = lets_go ss q Acknowledged held (after_send ss q Deliver held) n h refl
    (ap (λ (l : List SeqState). acknowledge l (map heard held)) (set-set ss q Outstanding Acknowledged)) in
    let out = g.1 in
    let few = g.2 in
    record { idle = g.0; out = omega arith; count = refl; kept = tt }
leaves ss q held Lose n h =
    record { idle = idle_on ss q Outstanding n refl; out = out_on ss q Outstanding n; count = refl; kept = held_else ss q Outstanding held n.idle h }
leaves ss q held LoseReply n h =
    let g = lets_go ss q Outstanding held (after_send ss q LoseReply held) n h refl refl in
    let out = g.1 in
    let few = g.2 in
    record { idle = g.0; out = omega arith; count = refl; kept = tt }
leaves ss q held Twice n h =
    let g = lets_go ss q Acknowledged held (after_send ss q Twice held) n h refl
    (ap (λ (l : List SeqState). acknowledge l (map heard held))
    (set-set (set ss q Outstanding) q Acknowledged Acknowledged ∙ set-set ss q Outstanding Acknowledged)) in
    let out = g.1 in
    let few = g.2 in
    record { idle = g.0; out = omega arith; count = refl; kept = tt }
leaves ss q held Hold n h =
    record {
      idle = idle_on ss q Outstanding n refl;
      out = out_on ss q Outstanding n;
      count = length-append held (q ∷ []);
      kept = held_more ss q held n.short n.idle h;
    }

-- A send, and the sends after it.
pub record Sends (ss : List SeqState) (q : ℕ) (held : List ℕ) (ls : List Letter) : Type 0 where
  pub on : sends_on ss held ls ≡ send q (letter_of ls) ∷ sends_on (after_send ss q (letter_of ls) held) (held_after (letter_of ls) q held) (drop 1 ls)
  pub kept : IsHeld (after_send ss q (letter_of ls) held) (held_after (letter_of ls) q held)
  pub fewer : length (idle_from 0 (after_send ss q (letter_of ls) held)) < length (idle_from 0 ss)

pub sends_one : (ss : List SeqState) (q : ℕ) (held : List ℕ) (ls : List Letter) → IsNext ss q → IsHeld ss held → Sends ss q held ls
sends_one ss q held ls n h =
    let l = letter_of ls in
    let s = leaves ss q held l n h in
    let after = after_send ss q l held in
    let wide : nat_lt (outstanding ss) 8 ≡ true = lt-ltb (outstanding ss) 8 n.room in
    let step : sends_on ss held ls ≡ send q l
    ∷ window (out_after l (outstanding ss) (length held)) (count_held l (length held)) (offered (idle_from 0 after) (drop 1 ls))
    = ap (λ (qs : List ℕ). window (outstanding ss) (length held) (offered qs ls)) s.idle
    ∙ ap (λ (b : Bool). cond b (send q l ∷ window (out_after l (outstanding ss) (length held)) (count_held l (length held))
    (offered (idle_from 0 after) (drop 1 ls))) []) wide in
    let counts = ap length s.idle in
    record {
      on = step ∙ (ap (λ (o : ℕ). send q l ∷ window o (count_held l (length held)) (offered (idle_from 0 after) (drop 1 ls))) (sym s.out)
          ∙ ap (λ (c : ℕ). send q l ∷ window (outstanding after) c (offered (idle_from 0 after) (drop 1 ls))) (sym s.count));
      kept = s.kept;
      fewer = omega arith;
    }

-- no more sends
pub sends_none_full : (ss : List SeqState) (held : List ℕ) (ls : List Letter) → 8 ≤ outstanding ss → sends_on ss held ls ≡ []
sends_none_full ss held ls full =
    let shut = le-ltb (outstanding ss) 8 full in
    (elim (offered (idle_from 0 ss) ls) as (λ o. window (outstanding ss) (length held) o ≡ []) [
      | [] ↦ refl
      | s ∷ rest ↦ rw shut refl
    ])

pub sends_none_idle : (ss : List SeqState) (held : List ℕ) (ls : List Letter) → idle_from 0 ss ≡ [] → sends_on ss held ls ≡ []
sends_none_idle ss held ls none = ap (λ (qs : List ℕ). window (outstanding ss) (length held) (offered qs ls)) none

-- a tick, before or after uploads are acknowledge
pub ticked_acknowledged : (ss : List SeqState) (ds : List Delivery) → ticked (acknowledge ss ds) ≡ acknowledge (ticked ss) ds
ticked_acknowledged ss [] = refl
ticked_acknowledged ss (d ∷ ds) =
    let one : ticked (acknowledge_one ss d) ≡ acknowledge_one (ticked ss) d
    = elim d.heard as (λ b. ticked (cond b (set ss d.seq Acknowledged) ss) ≡ cond b (set (ticked ss) d.seq Acknowledged) (ticked ss)) [
      | true ↦ map-set idle_again ss d.seq Acknowledged
      | false ↦ refl
    ] in
    ticked_acknowledged (acknowledge_one ss d) ds ∙ ap (λ (l : List SeqState). acknowledge l ds) one

pub ticked_sent : (ss : List SeqState) (q : ℕ) → IsNext ss q → ticked (set ss q Outstanding) ≡ ticked ss
ticked_sent ss q n =
    map-set idle_again ss q Outstanding ∙ (sym (map-set idle_again ss q Idle)
    ∙ ap ticked (ap (λ (s : SeqState). set ss q s) (sym n.idle) ∙ set-get_or ss q Refused))

-- Where a round stands: from its start at ss0 and ls0 the deliveries ds were made.
pub record IsInRound (ss0 : List SeqState) (ls0 : List Letter) (ds : List Delivery) (ss : List SeqState) (held : List ℕ) (ls : List Letter) : Type 0 where
  pub rest : ds ++ brought held (sends_on ss held ls) ≡ round ss0 ls0
  pub states : ticked ss ≡ acknowledge (ticked ss0) ds
  pub letters : drop (length (sends_on ss held ls)) ls ≡ letters_after ss0 ls0
  pub kept : IsHeld ss held

pub round_starts : (ss : List SeqState) (ls : List Letter) → IsInRound ss ls [] ss [] ls
round_starts ss ls = record { rest = refl; states = refl; letters = refl; kept = tt }

pub round_sends : (ss0 : List SeqState) (ls0 : List Letter) (ds : List Delivery) (ss : List SeqState) (held : List ℕ) (ls : List Letter) (q : ℕ)
    → IsInRound ss0 ls0 ds ss held ls → IsNext ss q
    → IsInRound ss0 ls0 (ds ++ brings (send q (letter_of ls)) held) (after_send ss q (letter_of ls) held) (held_after (letter_of ls) q held) (drop 1 ls)
round_sends ss0 ls0 ds ss held ls q r n =
    let l = letter_of ls in
    let s = sends_one ss q held ls n r.kept in
    let after = after_send ss q l held in
    let more = brings (send q l) held in
    let later = sends_on after (held_after l q held) (drop 1 ls) in
    let one_more : 1 + length later ≡ suc (length later) = omega arith in
    record {
      rest = append_assoc ds more (brought (held_after l q held) later) ∙ (ap (λ (sd : List Send). ds ++ brought held sd) (sym s.on) ∙ r.rest);
      states = ticked_acknowledged (set ss q Outstanding) more
          ∙ (ap (λ (t : List SeqState). acknowledge t more) (ticked_sent ss q n ∙ r.states) ∙ sym (fold-append acknowledge_one (ticked ss0) ds more));
      letters = drop-drop (length later) 1 ls ∙ (ap (λ (k : ℕ). drop k ls) one_more ∙ (ap (λ (sd : List Send). drop (length sd) ls) (sym s.on) ∙ r.letters));
      kept = s.kept;
    }

pub round_ends : (ss0 : List SeqState) (ls0 : List Letter) (ds : List Delivery) (ss : List SeqState) (held : List ℕ) (ls : List Letter)
    → IsInRound ss0 ls0 ds ss held ls → sends_on ss held ls ≡ []
    → (ds ++ map heard held ≡ round ss0 ls0) × EndsRound ss0 ls0 (acknowledge ss (map heard held)) ls
round_ends ss0 ls0 ds ss held ls r none =
    let all : ds ++ map heard held ≡ round ss0 ls0 = ap (λ (sd : List Send). ds ++ brought held sd) (sym none) ∙ r.rest in (
      all,
      record {
        states = ticked_acknowledged ss (map heard held) ∙ (ap (λ (t : List SeqState). acknowledge t (map heard held)) r.states
            ∙ (sym (fold-append acknowledge_one (ticked ss0) ds (map heard held)) ∙ ap (acknowledge (ticked ss0)) all));
        letters = ap (λ (sd : List Send). drop (length sd) ls) (sym none) ∙ r.letters;
      },
    )
