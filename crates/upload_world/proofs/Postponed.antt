-- The states of uploads while deliveries of them are due: they were sent, and are acknowledged when the turn was taken.
use Rattle.std.proofs.Common.{◌≡◌, ◌≢◌, ℕ, zero, suc, ◌+◌, ◌*◌, ◌<◌, ◌≤◌, true, false, cond, List, [], ◌∷◌, ◌++◌, map, length, get_or, set, refl, sym, ap, subst, ◌∙◌, arith, get_or-set_other, get_or-set_same}
use Rattle.std.specs.Prelude.{All}
use Rattle.std.specs.List.{count_by}
use Rattle.std.proofs.lemmas.List.{set_comm}
use Rattle.std.proofs.lemmas.List.Sums.{fold-append}
use Rattle.std.proofs.lemmas.List.Elements.{All-nil, All-cons, All-head, All-tail, All-same, All-append, All-map, All-weaker}
use Rattle.lg_model.specs.declared.scenario.Letter.{Letter}
use Rattle.lg_model.specs.declared.scenario.Letter.TheVariants.{Deliver, Lose, LoseReply, Twice, Hold}
use Rattle.uploader_core.specs.declared.state.SeqState.{SeqState}
use Rattle.uploader_core.specs.declared.state.SeqState.TheVariants.{Idle, Outstanding, Acknowledged, Refused}
use Rattle.uploader_core.specs.States.{is_idle, is_outstanding, state_at, sent}
use Rattle.link_deliveries.specs.Waiting.{IsNext}
use Rattle.link_deliveries.specs.Deliveries.{Delivery, send, heard, unheard, acknowledge, acknowledge_one, at_once, let_go, brings, IsHeld, after_send}
use Rattle.link_deliveries.proofs.Idle.{count-set}
use Rattle.link_deliveries.proofs.Progress.{acknowledged_down}
use Rattle.upload_world.proofs.Steady.{length-acknowledge}

-- an upload that is no longer idle
abbrev pub IsOut : List SeqState → ℕ → Type 0
IsOut ss q = is_idle (state_at ss q) ≡ false

abbrev pub AreOut : List SeqState → List Delivery → Type 0
AreOut ss ds = All (λ (d : Delivery). IsOut ss d.seq) ds

-- it stays so whatever is sent or acknowledged
set_out : (ss : List SeqState) (n k : ℕ) (x : SeqState) → is_idle x ≡ false → IsOut ss k → IsOut (set ss n x) k
set_out [] n k x not out = out
set_out (s ∷ ss) zero zero x not out = not
set_out (s ∷ ss) zero (suc k) x not out = out
set_out (s ∷ ss) (suc n) zero x not out = out
set_out (s ∷ ss) (suc n) (suc k) x not out = set_out ss n k x not out

one_out : (ss : List SeqState) (d : Delivery) (k : ℕ) → IsOut ss k → IsOut (acknowledge_one ss d) k
one_out ss d k out = elim d.heard as (λ b. IsOut (cond b (set ss d.seq Acknowledged) ss) k) [
  | true ↦ set_out ss d.seq k Acknowledged refl out
  | false ↦ out
]

later_out : (ss : List SeqState) (ds : List Delivery) (k : ℕ) → IsOut ss k → IsOut (acknowledge ss ds) k
later_out ss [] k out = out
later_out ss (d ∷ ds) k out = later_out (acknowledge_one ss d) ds k (one_out ss d k out)

all_one_out : (ss : List SeqState) (d : Delivery) (ds : List Delivery) → AreOut ss ds → AreOut (acknowledge_one ss d) ds
all_one_out ss d ds all =
    All-weaker (λ (x : Delivery). IsOut ss x.seq) (λ (x : Delivery). IsOut (acknowledge_one ss d) x.seq) (λ x out. one_out ss d x.seq out) ds all

-- an idle upload is none of them
apart : (ss : List SeqState) (k q : ℕ) → IsOut ss k → state_at ss q ≡ Idle → k ≢ q
apart ss k q out idle same = let e : false ≡ true = sym out ∙ ap (λ (n : ℕ). is_idle (state_at ss n)) same ∙ ap is_idle idle in cc

one_idle : (ss : List SeqState) (d : Delivery) (q : ℕ) → IsOut ss d.seq → state_at ss q ≡ Idle → state_at (acknowledge_one ss d) q ≡ Idle
one_idle ss d q out idle = elim d.heard as (λ b. state_at (cond b (set ss d.seq Acknowledged) ss) q ≡ Idle) [
  | true ↦ get_or-set_other ss d.seq q Acknowledged Refused (λ e. apart ss d.seq q out idle (sym e)) ∙ idle
  | false ↦ idle
]

later_idle : (ss : List SeqState) (ds : List Delivery) (q : ℕ) → AreOut ss ds → state_at ss q ≡ Idle → state_at (acknowledge ss ds) q ≡ Idle
later_idle ss [] q all idle = idle
later_idle ss (d ∷ ds) q all idle =
    later_idle (acknowledge_one ss d) ds q (all_one_out ss d ds (All-tail (λ (x : Delivery). IsOut ss x.seq) d ds all))
    (one_idle ss d q (All-head (λ (x : Delivery). IsOut ss x.seq) d ds all) idle)

-- the next upload is the next one also when they are acknowledged
pub later_next : (ss : List SeqState) (ds : List Delivery) (q : ℕ) → AreOut ss ds → IsNext ss q → IsNext (acknowledge ss ds) q
later_next ss ds q all n =
    let down = acknowledged_down is_outstanding ss ds refl in
    let room = n.room in
    let short = n.short in
    let long = length-acknowledge ss ds in
    record {
      room = omega arith;
      short = omega arith;
      idle = later_idle ss ds q all n.idle;
      least = λ k less. later_out ss ds k (n.least k less);
    }

-- sending it changes nothing of that
one_sent : (ss : List SeqState) (d : Delivery) (q : ℕ) → IsOut ss d.seq → state_at ss q ≡ Idle
    → set (acknowledge_one ss d) q Outstanding ≡ acknowledge_one (set ss q Outstanding) d
one_sent ss d q out idle =
    let now = set ss q Outstanding in
    elim d.heard as (λ b. set (cond b (set ss d.seq Acknowledged) ss) q Outstanding ≡ cond b (set now d.seq Acknowledged) now) [
      | true ↦ set_comm ss d.seq q Acknowledged Outstanding (apart ss d.seq q out idle)
      | false ↦ refl
    ]

later_sent : (ss : List SeqState) (ds : List Delivery) (q : ℕ) → AreOut ss ds → state_at ss q ≡ Idle
    → set (acknowledge ss ds) q Outstanding ≡ acknowledge (set ss q Outstanding) ds
later_sent ss [] q all idle = refl
later_sent ss (d ∷ ds) q all idle =
    let out = All-head (λ (x : Delivery). IsOut ss x.seq) d ds all in
    later_sent (acknowledge_one ss d) ds q (all_one_out ss d ds (All-tail (λ (x : Delivery). IsOut ss x.seq) d ds all)) (one_idle ss d q out idle)
    ∙ ap (λ (l : List SeqState). acknowledge l ds) (one_sent ss d q out idle)

-- what a send brings is due after those that are
pub later_after : (ss ts : List SeqState) (ds es : List Delivery) (q : ℕ) (l : Letter) (held : List ℕ) → AreOut ss ds → IsNext ss q → ts ≡ sent ss q
    → es ≡ ds ++ brings (send q l) held → acknowledge ts es ≡ after_send (acknowledge ss ds) q l held
later_after ss ts ds es q l held all n states is =
    let bs = brings (send q l) held in
    ap (λ (x : List SeqState). acknowledge x es) states
    ∙ (ap (acknowledge (sent ss q)) is
    ∙ (fold-append acknowledge_one (sent ss q) ds bs
    ∙ ap (λ (x : List SeqState). acknowledge x bs) (sym (later_sent ss ds q all n.idle))))

-- an upload that is outstanding then is so now
set_before : (ss : List SeqState) (n h : ℕ) → state_at (set ss n Acknowledged) h ≡ Outstanding → state_at ss h ≡ Outstanding
set_before [] n h is = is
set_before (s ∷ ss) zero zero is = absurd (cc is)
set_before (s ∷ ss) zero (suc h) is = is
set_before (s ∷ ss) (suc n) zero is = is
set_before (s ∷ ss) (suc n) (suc h) is = set_before ss n h is

before : (ss : List SeqState) (ds : List Delivery) (h : ℕ) → state_at (acknowledge ss ds) h ≡ Outstanding → state_at ss h ≡ Outstanding
before ss [] h is = is
before ss (d ∷ ds) h is =
    (elim d.heard as (λ b. state_at (cond b (set ss d.seq Acknowledged) ss) h ≡ Outstanding → state_at ss h ≡ Outstanding) [
      | true ↦ set_before ss d.seq h
      | false ↦ λ e. e
    ]) (before (acknowledge_one ss d) ds h is)

-- so those that are held are idle no longer
held_are_out : (ss : List SeqState) (ds : List Delivery) (hs : List ℕ) → IsHeld (acknowledge ss ds) hs → All (IsOut ss) hs
held_are_out ss ds [] held = All-nil (IsOut ss)
held_are_out ss ds (h ∷ hs) held =
    All-cons (IsOut ss) h hs (ap is_idle (before ss ds h held.1))
    (held_are_out ss (ds ++ heard h ∷ []) hs
    (subst (λ (l : List SeqState). IsHeld l hs) (sym (fold-append acknowledge_one ss ds (heard h ∷ []))) held.2))

-- what a letter brings is of the upload sent and of those held
at_once_each : (P : ℕ → Type 0) (l : Letter) (q : ℕ) → P q → All (λ (d : Delivery). P d.seq) (at_once l q)
at_once_each P Deliver q p = All-cons (λ (d : Delivery). P d.seq) (heard q) [] p (All-nil (λ (d : Delivery). P d.seq))
at_once_each P Lose q p = All-nil (λ (d : Delivery). P d.seq)
at_once_each P LoseReply q p = All-cons (λ (d : Delivery). P d.seq) (unheard q) [] p (All-nil (λ (d : Delivery). P d.seq))
at_once_each P Twice q p =
    All-cons (λ (d : Delivery). P d.seq) (heard q) (heard q ∷ []) p (All-cons (λ (d : Delivery). P d.seq) (heard q) [] p (All-nil (λ (d : Delivery). P d.seq)))
at_once_each P Hold q p = All-nil (λ (d : Delivery). P d.seq)

let_go_each : (P : ℕ → Type 0) (l : Letter) (hs : List ℕ) → All P hs → All P (let_go l hs)
let_go_each P Deliver hs all = all
let_go_each P Lose hs all = All-nil P
let_go_each P LoseReply hs all = all
let_go_each P Twice hs all = all
let_go_each P Hold hs all = All-nil P

-- after a send all that is due was sent
pub sent_out : (ss ts : List SeqState) (ds es : List Delivery) (q : ℕ) (l : Letter) (hs : List ℕ) → AreOut ss ds → IsNext ss q → IsHeld (acknowledge ss ds) hs
    → ts ≡ sent ss q → es ≡ ds ++ brings (send q l) hs → AreOut ts es
sent_out ss ts ds es q l hs all n held states is =
    let now = sent ss q in
    let Out : Delivery → Type 0 = λ d. IsOut now d.seq in
    let old : All Out ds = All-weaker (λ (d : Delivery). IsOut ss d.seq) Out (λ d out. set_out ss q d.seq Outstanding refl out) ds all in
    let own : IsOut now q = ap is_idle (get_or-set_same ss q Outstanding Refused n.short) in
    let others : All (IsOut now) hs = All-weaker (IsOut ss) (IsOut now) (λ k out. set_out ss q k Outstanding refl out) hs (held_are_out ss ds hs held) in
    let new : All Out (brings (send q l) hs) = All-append Out (at_once l q) (map heard (let_go l hs)) (at_once_each (IsOut now) l q own)
    (All-map Out heard (let_go l hs) (let_go_each (IsOut now) l hs others)) in
    subst (λ (x : List SeqState). AreOut x es) (sym states) (All-same Out es (ds ++ brings (send q l) hs) is (All-append Out ds (brings (send q l) hs) old new))

-- ---- how much is left to do before the window is shut

abbrev pub some : List Delivery → ℕ
some [] = 0
some (d ∷ ds) = 1

abbrev pub to_do : List SeqState → List Delivery → ℕ
to_do ss ds = 2 * count_by is_idle ss + some ds

some_few : (ds : List Delivery) → some ds ≤ 1
some_few [] = omega arith
some_few (d ∷ ds) = omega arith

pub fewer_sent : (ss ts : List SeqState) (ds es : List Delivery) (q : ℕ) → IsNext ss q → ts ≡ sent ss q → to_do ts es < to_do ss ds
fewer_sent ss ts ds es q n states =
    let few = some_few es in
    let count = count-set is_idle ss q Refused Outstanding n.short in
    let was : cond {A = ℕ} (is_idle (get_or ss q Refused)) 1 0 ≡ 1 = ap (λ (s : SeqState). cond {A = ℕ} (is_idle s) 1 0) n.idle in
    let same = ap (count_by is_idle) states in
    omega arith

pub fewer_settled : (ss ts : List SeqState) (ds es : List Delivery) → 0 < length ds → es ≡ [] → ts ≡ acknowledge ss ds → to_do ts es < to_do ss ds
fewer_settled ss ts [] es more none states = absurd (omega arith)
fewer_settled ss ts (d ∷ ds) es more none states =
    let down = acknowledged_down is_idle ss (d ∷ ds) refl in
    let same = ap (count_by is_idle) states in
    let gone = ap some none in
    omega arith
