-- What a switch has seen after some of the steps.
use Rattle.std.specs.Prelude.{◌≡◌, ◌≢◌, ℕ, zero, suc, ◌+◌, ◌-◌, ◌*◌, ◌<◌, ◌≤◌, Bool, true, false, cond, ◌==◌, ◌&&◌, List, [], ◌∷◌, ◌++◌, map, length, take, drop, fold, replicate, Option, None, Some, slice_index_or, count_by, if◌then◌else◌, All}
use Rattle.std.specs.List.{flat_map, filter_map, enumerate_from, cons_option}
use Rattle.std.proofs.Common.{refl, sym, ap, ◌∙◌, subst, arith, zero-add, add-one, append-nil, take_all, append_assoc, inl, inr, take-take, add-zero}
use Rattle.std.proofs.lemmas.List.{take_more, length-take, take-append-drop}
use Rattle.std.proofs.lemmas.List.Elements.{filter_map-append, All-nil, All-append, All-replicate, All-weaker, All-map, All-head, All-tail}
use Rattle.std.proofs.lemmas.Grind.{flat_map-append}
use Rattle.std.proofs.lemmas.List.{length-append, length-map, length-replicate}
use Rattle.std.proofs.lemmas.List.FromFn.{length-enumerate_from}
use Rattle.std.proofs.lemmas.List.Sums.{sum_by-cons}
use Rattle.std.proofs.lemmas.List.Sums.{fold-append, sum_by_more, sum_by-take-le}
use Rattle.std.proofs.lemmas.Bool.Decides.{eqb_tells}
use Rattle.lg_model.specs.Placing.{Shape}
use Rattle.lg_model.specs.Scenario.{Scenario, is_end_of, ended, burst_of, packet_count}
use Rattle.lg_model.specs.declared.scenario.Flow.{Flow}
use Rattle.lg_model.specs.declared.scenario.Step.{Step}
use Rattle.lg_model.specs.declared.scenario.Step.TheVariants as steps
use Rattle.lg_model.specs.declared.scenario.Step.TheVariants.{End, EndAll, Release}
use Rattle.lg_model.specs.Trace.{packets_until, Packet, packets, packet_of, packets_of, Meeting, meeting_of, meetings_of, meetings_in, meetings, reach, ended_before, observed, observation, Observation, seen_in, seen}
use Rattle.lg_model.specs.Sketch.{Table, zero_table, table_of, raise_by, frozen}
use Rattle.lg_model.specs.Settled.{BeginAlike, LawOfTheFrozen}

pub enumerate_from-append : {X : Type 0} (a : ℕ) (xs ys : List X) → enumerate_from a (xs ++ ys) ≡ enumerate_from a xs ++ enumerate_from (a + length xs) ys
enumerate_from-append a [] ys = ap (λ n. enumerate_from n ys) (let e : a ≡ a + 0 = omega arith in e)
enumerate_from-append a (x ∷ xs) ys =
    let e : (a + 1) + length xs ≡ a + length (x ∷ xs) = omega arith in
    ap (λ zs. (a, x) ∷ zs) (enumerate_from-append (a + 1) xs ys ∙ ap (λ n. enumerate_from (a + 1) xs ++ enumerate_from n ys) e)

-- what f makes of numbered things has P, where it has it of each
pub all_made : {X Y : Type 0} (P : Y → Type 0) (f : ℕ × X → List Y) (a : ℕ) (xs : List X) → ((k : ℕ) (x : X) → a ≤ k → All P (f (k, x))) → All P (flat_map f (enumerate_from a xs))
all_made P f a [] each = All-nil P
all_made P f a (x ∷ xs) each =
    All-append P (f (a, x)) (flat_map f (enumerate_from (a + 1) xs)) (each a x (omega arith)) (all_made P f (a + 1) xs (λ k y low. each k y (omega arith)))

-- the packets of the steps from n on
abbrev pub packets_from : Scenario → ℕ → List Packet
packets_from w n = flat_map (packets_of w.flows) (enumerate_from n (drop n w.steps))

-- the step at a place
abbrev pub step_at : Scenario → ℕ → Step
step_at w n = slice_index_or w.steps n Release

front_length : (w : Scenario) (n : ℕ) → n ≤ length w.steps → length (take n w.steps) ≡ n
front_length w n h = omega (arith, length-take n w.steps)

pub packets_split : (w : Scenario) (n : ℕ) → n ≤ length w.steps → packets w ≡ packets_until w n ++ packets_from w n
packets_split w n h =
    ap (λ xs. flat_map (packets_of w.flows) (enumerate_from 0 xs)) (sym (take-append-drop n w.steps))
    ∙ ap (flat_map (packets_of w.flows)) (enumerate_from-append 0 (take n w.steps) (drop n w.steps)
    ∙ ap (λ k. enumerate_from 0 (take n w.steps) ++ enumerate_from k (drop n w.steps)) (zero-add (length (take n w.steps)) ∙ front_length w n h))
    ∙ flat_map-append (packets_of w.flows) (enumerate_from 0 (take n w.steps)) (enumerate_from n (drop n w.steps))

pub packets_more : (w : Scenario) (n : ℕ) → n < length w.steps → packets_until w (n + 1) ≡ packets_until w n ++ packets_of w.flows (n, step_at w n)
packets_more w n h =
    ap (λ xs. flat_map (packets_of w.flows) (enumerate_from 0 xs)) (take_more w.steps n Release h)
    ∙ ap (flat_map (packets_of w.flows)) (enumerate_from-append 0 (take n w.steps) (step_at w n ∷ [])
    ∙ ap (λ k. enumerate_from 0 (take n w.steps) ++ (k, step_at w n) ∷ []) (zero-add (length (take n w.steps)) ∙ front_length w n (omega arith)))
    ∙ flat_map-append (packets_of w.flows) (enumerate_from 0 (take n w.steps)) ((n, step_at w n) ∷ [])
    ∙ ap (λ xs. packets_until w n ++ xs) (append-nil (packets_of w.flows (n, step_at w n)))

-- the packets of a step are of that step
pub packets_at : (P : ℕ → Type 0) (flows : List Flow) (n : ℕ) (step : Step) → P n → All (λ (p : Packet). P p.step_at) (packets_of flows (n, step))
packets_at P flows n (steps.Packet f size delays burst fate) h = All-replicate (λ (p : Packet). P p.step_at) burst (packet_of flows n f size delays fate) h
packets_at P flows n (End s) h = All-nil (λ (p : Packet). P p.step_at)
packets_at P flows n EndAll h = All-nil (λ (p : Packet). P p.step_at)
packets_at P flows n Release h = All-nil (λ (p : Packet). P p.step_at)

pub packets_after : (w : Scenario) (n : ℕ) → All (λ (p : Packet). n ≤ p.step_at) (packets_from w n)
packets_after w n = all_made (λ (p : Packet). n ≤ p.step_at) (packets_of w.flows) n (drop n w.steps) (λ k step low. packets_at (λ a. n ≤ a) w.flows k step low)

pub packets_before : (w : Scenario) (n : ℕ) → n ≤ length w.steps → All (λ (p : Packet). p.step_at < n) (packets_until w n)
packets_before w zero h = All-nil (λ (p : Packet). p.step_at < zero)
packets_before w (suc n) h =
    let P : ℕ → Type 0 = λ a. a < suc n in
    let more : packets_until w (suc n) ≡ packets_until w n ++ packets_of w.flows (n, step_at w n) =
    ap (packets_until w) (let e : suc n ≡ n + 1 = omega arith in e) ∙ packets_more w n (omega arith) in
    let first : All (λ (p : Packet). P p.step_at) (packets_until w n) =
    All-weaker (λ (p : Packet). p.step_at < n) (λ (p : Packet). P p.step_at) (λ p low. let e : p.step_at < suc n = omega arith in e) (packets_until w n) (packets_before w n (omega arith)) in
    subst (All (λ (p : Packet). P p.step_at)) (sym more)
    (All-append (λ (p : Packet). P p.step_at) (packets_until w n) (packets_of w.flows (n, step_at w n)) first
    (packets_at P w.flows n (step_at w n) (let e : n < suc n = omega arith in e)))

-- the meetings of further packets
abbrev pub meetings_on : ℕ → List Packet → List Meeting
meetings_on a ps = flat_map meetings_of (enumerate_from a ps)

pub meetings_append : (ps qs : List Packet) → meetings_in (ps ++ qs) ≡ meetings_in ps ++ meetings_on (length ps) qs
meetings_append ps qs =
    ap (flat_map meetings_of) (enumerate_from-append 0 ps qs ∙ ap (λ k. enumerate_from 0 ps ++ enumerate_from k qs) (zero-add (length ps)))
    ∙ flat_map-append meetings_of (enumerate_from 0 ps) (enumerate_from (length ps) qs)

pub meetings_push : (ps : List Packet) (p : Packet) → meetings_in (ps ++ p ∷ []) ≡ meetings_in ps ++ meetings_of (length ps, p)
meetings_push ps p = meetings_append ps (p ∷ []) ∙ ap (λ ms. meetings_in ps ++ ms) (append-nil (meetings_of (length ps, p)))

-- what holds of the step of each packet holds of that of each meeting
pub meetings_keep : (P : ℕ → Type 0) (a : ℕ) (ps : List Packet) → All (λ (p : Packet). P p.step_at) ps → All (λ (m : Meeting). P m.step_at) (meetings_on a ps)
meetings_keep P a [] h = All-nil (λ (m : Meeting). P m.step_at)
meetings_keep P a (p ∷ ps) h =
    let Q : Meeting → Type 0 = λ m. P m.step_at in
    let hops = enumerate_from 0 (take (reach p) p.flow.path) in
    let one : P p.step_at = All-head (λ (q : Packet). P q.step_at) p ps h in
    All-append Q (meetings_of (a, p)) (meetings_on (a + 1) ps) (every Q (meeting_of a p) (λ t. one) hops)
    (meetings_keep P (a + 1) ps (All-tail (λ (q : Packet). P q.step_at) p ps h))
  where
    every : {X Y : Type 0} (Q : Y → Type 0) (f : X → Y) → ((x : X) → Q (f x)) → (xs : List X) → All Q (map f xs)
    every Q f each [] = All-nil Q
    every {X} {Y} Q f each (x ∷ xs) = All-append Q (f x ∷ []) (map f xs) (All-append Q (f x ∷ []) [] (All-replicate Q 1 (f x) (each x)) (All-nil Q)) (every Q f each xs)

pub ended_more : (w : Scenario) (s n : ℕ) → n < length w.steps → ended w s (n + 1) ≡ ended w s n + cond (is_end_of s (step_at w n)) 1 0
ended_more w s n h = sum_by_more (λ x. cond (is_end_of s x) 1 0) w.steps n Release h

pub ended_rises : (w : Scenario) (s i n : ℕ) → i ≤ n → ended w s i ≤ ended w s n
ended_rises w s i n h =
    let front = take-take i n w.steps h in
    subst (λ xs. count_by (is_end_of s) xs ≤ ended w s n) front (sum_by-take-le (λ x. cond (is_end_of s x) 1 0) (take n w.steps) i)

-- nothing is seen where each meeting of the switch is in another epoch
pub seen_none : (w : Scenario) (s e : ℕ) (ms : List Meeting) → All (λ (m : Meeting). ended w s m.step_at ≢ e) ms → seen_in w s e ms ≡ []
seen_none w s e [] h = refl
seen_none w s e (m ∷ ms) h =
    let other : ended w s m.step_at ≢ e = All-head (λ (m : Meeting). ended w s m.step_at ≢ e) m ms h in
    let none : observed w s e m ≡ None =
    elim (eqb_tells m.switch_at s) [
      | inl same ↦ elim (eqb_tells (ended_before w m) e) [
        | inl now ↦ absurd (other (ap (λ t. ended w t m.step_at) (sym same.1) ∙ now.1))
        | inr differs ↦ rw (same.0, differs.0) refl
      ]
      | inr differs ↦ rw differs.0 refl
    ] in
    rw none (seen_none w s e ms (All-tail (λ (m : Meeting). ended w s m.step_at ≢ e) m ms h))

-- an epoch that is ended is settled
pub frozen_is : (w : Scenario) (s e n : ℕ) → n ≤ length w.steps → e < ended w s n → frozen w s e ≡ table_of w.shape (seen_in w s e (meetings_in (packets_until w n)))
frozen_is w s e n h past =
    let ps = packets_until w n in
    let rest = meetings_on (length ps) (packets_from w n) in
    let all : meetings w ≡ meetings_in ps ++ rest = ap meetings_in (packets_split w n h) ∙ meetings_append ps (packets_from w n) in
    let P : ℕ → Type 0 = λ a. ended w s a ≢ e in
    let after : All (λ (m : Meeting). P m.step_at) rest = meetings_keep P (length ps) (packets_from w n)
    (All-weaker (λ (p : Packet). n ≤ p.step_at) (λ (p : Packet). P p.step_at)
    (λ p low same. let up : ended w s n ≤ ended w s p.step_at = ended_rises w s n p.step_at low in let no : ⊥ = omega arith in no) (packets_from w n) (packets_after w n)) in
    ap (table_of w.shape) (ap (seen_in w s e) all ∙ filter_map-append (observed w s e) (meetings_in ps) rest
    ∙ ap (λ xs. seen_in w s e (meetings_in ps) ++ xs) (seen_none w s e rest after) ∙ append-nil (seen_in w s e (meetings_in ps)))

-- scenarios that begin alike end the same epochs in their first steps, and see the same there
ended_alike : (v w : Scenario) (s i n : ℕ) → BeginAlike n v w → i ≤ n → ended v s i ≡ ended w s i
ended_alike v w s i n alike h =
    ap (count_by (is_end_of s)) (sym (take-take i n v.steps h) ∙ ap (take i) alike.steps ∙ take-take i n w.steps h)

seen_alike : (v w : Scenario) (s e n : ℕ) (ms : List Meeting) → BeginAlike n v w → All (λ (m : Meeting). m.step_at < n) ms → seen_in v s e ms ≡ seen_in w s e ms
seen_alike v w s e n [] alike early = refl
seen_alike v w s e n (m ∷ ms) alike early =
    let low : m.step_at < n = All-head (λ (x : Meeting). x.step_at < n) m ms early in
    let same : ended_before v m ≡ ended_before w m = ended_alike v w m.switch_at m.step_at n alike (omega arith) in
    let rest = seen_alike v w s e n ms alike (All-tail (λ (x : Meeting). x.step_at < n) m ms early) in
    ap (λ (k : ℕ). cons_option (if m.switch_at == s && k == e then Some (observation m) else None) (seen_in v s e ms)) same
    ∙ ap (λ (xs : List Observation). cons_option (observed w s e m) xs) rest

packets_alike : (v w : Scenario) (n : ℕ) → BeginAlike n v w → packets_until v n ≡ packets_until w n
packets_alike v w n alike = λ i. flat_map (packets_of (alike.flows i)) (enumerate_from 0 (alike.steps i))

frozen_alike : (v w : Scenario) (s e n : ℕ) → n ≤ length v.steps → n ≤ length w.steps → BeginAlike n v w → e < ended w s n → frozen v s e ≡ frozen w s e
frozen_alike v w s e n hv hw alike past =
    let past_v : e < ended v s n = subst (λ k. e < k) (sym (ended_alike v w s n n alike (omega arith))) past in
    let same : packets_until v n ≡ packets_until w n = packets_alike v w n alike in
    let ms = meetings_in (packets_until w n) in
    let early : All (λ (m : Meeting). m.step_at < n) ms = meetings_keep (λ a. a < n) 0 (packets_until w n) (packets_before w n hw) in
    frozen_is v s e n hv past_v
    ∙ ap (λ ps. table_of v.shape (seen_in v s e (meetings_in ps))) same
    ∙ ap (table_of v.shape) (seen_alike v w s e n ms alike early)
    ∙ ap (λ shape. table_of shape (seen_in w s e ms)) alike.shape
    ∙ sym (frozen_is w s e n hw past)

pub law_of_the_frozen : LawOfTheFrozen
law_of_the_frozen = record { settled = frozen_is; alike = frozen_alike }

-- the packets are as many as the steps send
packets_count : (flows : List Flow) (n : ℕ) (xs : List Step) → length (flat_map (packets_of flows) (enumerate_from n xs)) ≡ packet_count xs
packets_count flows n [] = refl
packets_count flows n (x ∷ xs) =
    length-append (packets_of flows (n, x)) (flat_map (packets_of flows) (enumerate_from (n + 1) xs))
    ∙ ap (λ k. length (packets_of flows (n, x)) + k) (packets_count flows (n + 1) xs)
    ∙ ap (λ k. k + packet_count xs) (one x) ∙ sym (sum_by-cons burst_of x xs)
  where
    one : (step : Step) → length (packets_of flows (n, step)) ≡ burst_of step
    one (steps.Packet at size delays burst fate) = length-replicate burst (packet_of flows n at size delays fate)
    one (steps.End s) = refl
    one steps.EndAll = refl
    one steps.Release = refl

pub length_packets : (w : Scenario) → length (packets w) ≡ packet_count w.steps
length_packets w = packets_count w.flows 0 w.steps

-- and their meetings are no more than sixteen times as many
pub few_meetings : (a : ℕ) (ps : List Packet) → All (λ (p : Packet). length p.flow.path ≤ 16) ps → length (meetings_on a ps) ≤ 16 * length ps
few_meetings a [] h = omega arith
few_meetings a (p ∷ ps) h =
    let hops = take (reach p) p.flow.path in
    let short : length p.flow.path ≤ 16 = All-head (λ (q : Packet). length q.flow.path ≤ 16) p ps h in
    let rest : length (meetings_on (a + 1) ps) ≤ 16 * length ps = few_meetings (a + 1) ps (All-tail (λ (q : Packet). length q.flow.path ≤ 16) p ps h) in
    let mine : length (meetings_of (a, p)) ≡ length hops = length-map (enumerate_from 0 hops) (meeting_of a p) ∙ length-enumerate_from 0 hops in
    let all : length (meetings_on a (p ∷ ps)) ≡ length (meetings_of (a, p)) + length (meetings_on (a + 1) ps) = length-append (meetings_of (a, p)) (meetings_on (a + 1) ps) in
    omega (arith, length-take (reach p) p.flow.path)
