-- How many applications a send may need, and how many are left for the rest.
use Rattle.std.proofs.Common.{◌≡◌, ℕ, ◌+◌, ◌*◌, ◌≤◌, Bool, true, false, cond, List, [], ◌∷◌, length, get_or, set, drop, map, refl, sym, ap, ◌∙◌, arith, length-append, set-set}
use Rattle.std.proofs.lemmas.List.{length-map, map-set, set-get_or}
use Rattle.lg_model.specs.declared.scenario.Letter.{Letter}
use Rattle.lg_model.specs.declared.scenario.Letter.TheVariants.{Deliver, Lose, LoseReply, Twice, Hold}
use Rattle.uploader_core.specs.declared.state.SeqState.{SeqState}
use Rattle.uploader_core.specs.declared.state.SeqState.TheVariants.{Idle, Outstanding, Acknowledged, Refused}
use Rattle.uploader_core.specs.States.{is_acknowledged, ticked, idle_again}
use Rattle.link_deliveries.specs.Waiting.{is_refused, is_waiting, unacknowledged, refusals, IsNext}
use Rattle.link_deliveries.specs.Deliveries.{send, heard, letter_of, brings, held_after, after_send}
use Rattle.link_deliveries.proofs.Idle.{count-set, count-cons}
use Rattle.link_deliveries.proofs.Progress.{acknowledged_down}

-- the next upload is not acknowledge, also when it is after_send
waits : (ss : List SeqState) (q : ℕ) → IsNext ss q → cond {A = ℕ} (is_waiting (get_or ss q Refused)) 1 0 ≡ 1
waits ss q n = ap (λ (s : SeqState). cond {A = ℕ} (is_waiting s) 1 0) n.idle

sent_out : (ss : List SeqState) (q : ℕ) → IsNext ss q → unacknowledged (set ss q Outstanding) ≡ unacknowledged ss
sent_out ss q n = let a = count-set is_waiting ss q Refused Outstanding n.short in let b = waits ss q n in omega arith

sent_on : (ss : List SeqState) (q : ℕ) → IsNext ss q → unacknowledged (set ss q Acknowledged) + 1 ≡ unacknowledged ss
sent_on ss q n = let a = count-set is_waiting ss q Refused Acknowledged n.short in let b = waits ss q n in omega arith

-- a send leaves no more that wait, and one fewer where it is delivered
fewer_wait : (ss : List SeqState) (q : ℕ) (l : Letter) (held : List ℕ) → IsNext ss q → unacknowledged (after_send ss q l held) ≤ unacknowledged ss
fewer_wait ss q l held n =
    let a = acknowledged_down is_waiting (set ss q Outstanding) (brings (send q l) held) refl in
    let b = sent_out ss q n in
    omega arith

one_fewer : (ss : List SeqState) (q : ℕ) (held : List ℕ) → IsNext ss q → unacknowledged (after_send ss q Deliver held) + 1 ≤ unacknowledged ss
one_fewer ss q held n =
    let a = acknowledged_down is_waiting (set (set ss q Outstanding) q Acknowledged) (map heard held) refl in
    let b = sent_on ss q n in
    let c : unacknowledged (set (set ss q Outstanding) q Acknowledged) ≡ unacknowledged (set ss q Acknowledged)
    = ap unacknowledged (set-set ss q Outstanding Acknowledged) in
    omega arith

-- of 2 applications a letter, one an upload that waits and one an upload held, a send leaves as many
pub record HasRoom (begun limit : ℕ) (ss : List SeqState) (q : ℕ) (held : List ℕ) (ls : List Letter) : Type 0 where
  pub now : begun + length (brings (send q (letter_of ls)) held) ≤ limit
  pub then : (begun + length (brings (send q (letter_of ls)) held)) + 2 * length (drop 1 ls) + unacknowledged (after_send ss q (letter_of ls) held)
      + length (held_after (letter_of ls) q held) ≤ limit

pub has_room : (begun limit : ℕ) (ss : List SeqState) (q : ℕ) (held : List ℕ) (ls : List Letter) → IsNext ss q
    → begun + 2 * length ls + unacknowledged ss + length held ≤ limit → HasRoom begun limit ss q held ls
has_room begun limit ss q held [] n room =
    let a = one_fewer ss q held n in
    let b = length-map held heard in
    record { now = omega arith; then = omega arith }
has_room begun limit ss q held (Deliver ∷ ls) n room =
    let a = fewer_wait ss q Deliver held n in
    let b = length-map held heard in
    record { now = omega arith; then = omega arith }
has_room begun limit ss q held (Lose ∷ ls) n room =
    let a = fewer_wait ss q Lose held n in
    record { now = omega arith; then = omega arith }
has_room begun limit ss q held (LoseReply ∷ ls) n room =
    let a = fewer_wait ss q LoseReply held n in
    let b = length-map held heard in
    record { now = omega arith; then = omega arith }
has_room begun limit ss q held (Twice ∷ ls) n room =
    let a = fewer_wait ss q Twice held n in
    let b = length-map held heard in
    record { now = omega arith; then = omega arith }
has_room begun limit ss q held (Hold ∷ ls) n room =
    let a = fewer_wait ss q Hold held n in
    let b = length-append held (q ∷ []) in
    record { now = omega arith; then = omega arith }

-- a tick changes nothing of what waits
pub ticked_waits : (ss : List SeqState) → unacknowledged (ticked ss) ≡ unacknowledged ss
ticked_waits [] = refl
ticked_waits (s ∷ ss) = count-cons is_waiting (idle_again s) (ticked ss) ∙ (ap (λ (n : ℕ). cond {A = ℕ} (is_waiting (idle_again s)) 1 0 + n) (ticked_waits ss)
    ∙ (elim s as (λ x. cond {A = ℕ} (is_waiting (idle_again x)) 1 0 + unacknowledged ss ≡ cond {A = ℕ} (is_waiting x) 1 0 + unacknowledged ss)
    [ Idle ↦ refl | Outstanding ↦ refl | Acknowledged ↦ refl | Refused ↦ refl ]
    ∙ sym (count-cons is_waiting s ss)))

-- nor of what is acknowledge
pub ticked_acks : (ss : List SeqState) → map is_acknowledged (ticked ss) ≡ map is_acknowledged ss
ticked_acks [] = refl
ticked_acks (s ∷ ss) = (elim s as (λ x. is_acknowledged (idle_again x) ∷ map is_acknowledged (ticked ss) ≡ is_acknowledged x ∷ map is_acknowledged ss) [
  | Idle ↦ ap (λ (l : List Bool). false ∷ l) (ticked_acks ss)
  | Outstanding ↦ ap (λ (l : List Bool). false ∷ l) (ticked_acks ss)
  | Acknowledged ↦ ap (λ (l : List Bool). true ∷ l) (ticked_acks ss)
  | Refused ↦ ap (λ (l : List Bool). false ∷ l) (ticked_acks ss)
])

-- nor does sending an upload that is to be after_send
pub sent_acks : (ss : List SeqState) (q : ℕ) → IsNext ss q → map is_acknowledged (set ss q Outstanding) ≡ map is_acknowledged ss
sent_acks ss q n = map-set is_acknowledged ss q Outstanding
    ∙ (sym (map-set is_acknowledged ss q Idle) ∙ ap (map is_acknowledged) (ap (λ (s : SeqState). set ss q s) (sym n.idle) ∙ set-get_or ss q Refused))

pub sent_refused : (ss : List SeqState) (q : ℕ) → IsNext ss q → refusals (set ss q Outstanding) ≡ refusals ss
sent_refused ss q n =
    let a = count-set is_refused ss q Refused Outstanding n.short in
    let b : cond {A = ℕ} (is_refused (get_or ss q Refused)) 1 0 ≡ 0 = ap (λ (s : SeqState). cond {A = ℕ} (is_refused s) 1 0) n.idle in
    omega arith
