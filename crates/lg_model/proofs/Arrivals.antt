-- What came to the hosts after some of the steps.
use Rattle.std.specs.Prelude.{◌≡◌, ◌≢◌, ℕ, zero, suc, ◌+◌, ◌-◌, ◌<◌, ◌≤◌, ◌⊎◌, Bool, true, false, cond, ◌==◌, ◌&&◌, List, [], ◌∷◌, ◌++◌, map, take, drop, length, reverse, filter, replicate, Option, Some, None, count_by, slice_get, slice_index_or, All, slice_set}
use Rattle.std.specs.List.{flat_map, filter_map, enumerate_from, find}
use Rattle.std.specs.Option.{option_map, option_or}
use Rattle.std.proofs.Common.{refl, sym, ap, ◌∙◌, subst, arith, inl, inr, zero-add, add-zero, append-nil, append_assoc, eq-eqb, take-take}
use Rattle.std.proofs.lemmas.List.{take_more, length-take, length-drop, length-append, map-append, length-set, get_or-set_same, get_or-set_other, reverse-append, drop-append-le}
use Rattle.std.proofs.Math.Seq.{take-append_seam, drop-append_seam}
use Rattle.std.proofs.Math.ListN.{drop_of_length-le}
use Rattle.std.proofs.lemmas.List.Elements.{filter_map-append, filter-append, All-nil, All-cons, All-head, All-tail, All-append}
use Rattle.std.proofs.lemmas.List.Folds.{find-append}
use Rattle.std.proofs.lemmas.List.Sums.{sum_by_more, sum_by-take-le}
use Rattle.std.proofs.lemmas.Grind.{flat_map-append}
use Rattle.std.proofs.lemmas.Bool.Decides.{eqb_tells}
use Rattle.std.proofs.lemmas.Option.{slice_get-get_or}
use Rattle.lg_model.specs.Scenario.{Scenario}
use Rattle.lg_model.specs.declared.scenario.Step.{Step}
use Rattle.lg_model.specs.declared.scenario.Step.TheVariants.{End, EndAll, Release}
use Rattle.lg_model.specs.declared.scenario.Fate.{Fate}
use Rattle.lg_model.specs.declared.scenario.Fate.TheVariants.{Straight, Lost, Twice, Late}
use Rattle.lg_model.specs.Trace.{packets_until, Packet, packets, packet_of, packets_of}
use Rattle.lg_model.specs.Carrying.{Carry}
use Rattle.lg_model.specs.Arriving.{column_of, is_release, is_late, arrives, released, is_held, held, arrives_of, arrivals_at, arrivals_until, cargo, packet_at, no_packet, brings, deliveries, for_host}
use Rattle.lg_model.specs.Columns.{Column}
use Rattle.lg_model.specs.Midway.{AreDelivered, packets_to, sent_by, arrived_to, held_to}
use Rattle.lg_model.specs.declared.scenario.Step.TheVariants as steps
use Rattle.lg_model.specs.Matching.{Matched}
use Rattle.lg_model.proofs.Pairing.{matched_push}
use Rattle.lg_model.proofs.Tracing.{enumerate_from-append, packets_split, packets_from, packets_more, packets_before, packets_at, step_at}

-- one step more
pub arrivals_more : (w : Scenario) (n : ℕ) → n < length w.steps → arrivals_until w (n + 1) ≡ arrivals_until w n ++ arrivals_at w (n, step_at w n)
arrivals_more w n h =
    let front : length (take n w.steps) ≡ n = omega (arith, length-take n w.steps) in
    ap (λ xs. flat_map (arrivals_at w) (enumerate_from 0 xs)) (take_more w.steps n Release h)
    ∙ ap (flat_map (arrivals_at w)) (enumerate_from-append 0 (take n w.steps) (step_at w n ∷ [])
    ∙ ap (λ k. enumerate_from 0 (take n w.steps) ++ (k, step_at w n) ∷ []) (zero-add (length (take n w.steps)) ∙ front))
    ∙ flat_map-append (arrivals_at w) (enumerate_from 0 (take n w.steps)) ((n, step_at w n) ∷ [])
    ∙ ap (λ xs. arrivals_until w n ++ xs) (append-nil (arrivals_at w (n, step_at w n)))

-- what a packet carries isn't touched by what later ones carry
find_other : (k : ℕ) (cs : List Carry) → All (λ (c : Carry). c.packet ≢ k) cs → find (λ (c : Carry). c.packet == k) cs ≡ None
find_other k [] all = refl
find_other k (c ∷ cs) all =
    elim (eqb_tells c.packet k) [
      | inl same ↦ absurd (All-head (λ (x : Carry). x.packet ≢ k) c cs all same.1)
      | inr other ↦ rw other.0 (find_other k cs (All-tail (λ (x : Carry). x.packet ≢ k) c cs all))
    ]

or_none : {X : Type 0} (o : Option X) → option_or o None ≡ o
or_none None = refl
or_none (Some x) = refl

pub cargo_stays : (w : Scenario) (cs more : List Carry) (k : ℕ) → All (λ (c : Carry). c.packet ≢ k) more → cargo w (cs ++ more) k ≡ cargo w cs k
cargo_stays w cs more k all =
    ap (option_map (column_of w)) (find-append (λ (c : Carry). c.packet == k) cs more ∙ ap (option_or (find (λ (c : Carry). c.packet == k) cs)) (find_other k more all) ∙ or_none (find (λ (c : Carry). c.packet == k) cs))

-- nor is what was delivered before
pub deliveries_stay : (w : Scenario) (cs more : List Carry) (n : ℕ) (ks : List ℕ) → All (λ (c : Carry). n ≤ c.packet) more → All (λ k. k < n) ks →
    deliveries w (cs ++ more) ks ≡ deliveries w cs ks
deliveries_stay w cs more n [] late low = refl
deliveries_stay w cs more n (k ∷ ks) late low =
    let first : k < n = All-head (λ a. a < n) k ks low in
    let same : brings w (cs ++ more) k ≡ brings w cs k =
    ap (option_map (λ (c : Column). ((packet_at w k).flow.host_at, c))) (cargo_stays w cs more k (others more late first)) in
    rw same (ap (λ xs. Rattle.std.specs.List.cons_option (brings w cs k) xs) (deliveries_stay w cs more n ks late (All-tail (λ a. a < n) k ks low)))
  where
    others : (cs : List Carry) → All (λ (c : Carry). n ≤ c.packet) cs → k < n → All (λ (c : Carry). c.packet ≢ k) cs
    others [] all first = All-nil (λ (c : Carry). c.packet ≢ k)
    others (c ∷ cs) all first =
        let low : n ≤ c.packet = All-head (λ (x : Carry). n ≤ x.packet) c cs all in
        All-cons (λ (x : Carry). x.packet ≢ k) c cs (λ same. absurd (omega arith)) (others cs (All-tail (λ (x : Carry). n ≤ x.packet) c cs all) first)

pub deliveries_append : (w : Scenario) (cs : List Carry) (ks js : List ℕ) → deliveries w cs (ks ++ js) ≡ deliveries w cs ks ++ deliveries w cs js
deliveries_append w cs ks js = filter_map-append (brings w cs) ks js

pub deliveries_reverse : (w : Scenario) (cs : List Carry) (ks : List ℕ) → deliveries w cs (reverse ks) ≡ reverse (deliveries w cs ks)
deliveries_reverse w cs [] = refl
deliveries_reverse w cs (k ∷ ks) =
    ap (deliveries w cs) (reverse-append (k ∷ []) ks)
    ∙ deliveries_append w cs (reverse ks) (k ∷ [])
    ∙ ap (λ ds. ds ++ deliveries w cs (k ∷ [])) (deliveries_reverse w cs ks)
    ∙ one (brings w cs k)
  where
    one : (o : Option (ℕ × Column)) →
        reverse (deliveries w cs ks) ++ Rattle.std.specs.List.cons_option o [] ≡ reverse (Rattle.std.specs.List.cons_option o (deliveries w cs ks))
    one None = append-nil (reverse (deliveries w cs ks))
    one (Some d) = sym (reverse-append (d ∷ []) (deliveries w cs ks))

-- one delivery more
pub deliver_one : {X : Type 0} (IsOf : X → Column → Type 0) (ds : List (ℕ × Column)) (hosts : List (List X)) (a : ℕ) (c : Column) (row : List X) (x : X) → a < length hosts →
    row ≡ slice_index_or hosts a [] → IsOf x c → AreDelivered IsOf ds hosts → AreDelivered IsOf (ds ++ (a, c) ∷ []) (slice_set hosts a (row ++ x ∷ []))
deliver_one {X} IsOf ds hosts a c row x inside row_is is all =
    let new : List X = row ++ x ∷ [] in
    let long : length (slice_set hosts a new) ≡ length hosts = length-set hosts a new in
    record {
      each = λ h low. elim (eqb_tells a h) [
        | inl same ↦
            let more : for_host h (ds ++ (a, c) ∷ []) ≡ for_host h ds ++ c ∷ [] =
            ap (map (λ (d : ℕ × Column). d.1)) (filter-append (λ (d : ℕ × Column). d.0 == h) ds ((a, c) ∷ []) ∙ (rw same.0 refl))
            ∙ map-append (λ (d : ℕ × Column). d.1) (filter (λ (d : ℕ × Column). d.0 == h) ds) ((a, c) ∷ []) in
            let old : Matched IsOf (slice_index_or hosts a []) (for_host h ds) = subst (λ (r : ℕ). Matched IsOf (slice_index_or hosts a []) (for_host r ds)) same.1 (all.each a inside) in
            let here : Matched IsOf new (for_host h ds ++ c ∷ []) = matched_push IsOf row (for_host h ds) x c (subst (λ (xs : List X). Matched IsOf xs (for_host h ds)) (sym row_is) old) is in
            let at : slice_index_or (slice_set hosts a new) h [] ≡ new = ap (λ r. slice_index_or (slice_set hosts a new) r []) (sym same.1) ∙ get_or-set_same hosts a new [] inside in
            subst (λ (xs : List X). Matched IsOf xs (for_host h (ds ++ (a, c) ∷ []))) (sym at) (subst (Matched IsOf new) (sym more) here)
        | inr other ↦
            let ne : h ≢ a = λ q. other.1 (sym q) in
            let same : for_host h (ds ++ (a, c) ∷ []) ≡ for_host h ds =
            ap (map (λ (d : ℕ × Column). d.1)) (filter-append (λ (d : ℕ × Column). d.0 == h) ds ((a, c) ∷ []) ∙ (rw other.0 (append-nil (filter (λ (d : ℕ × Column). d.0 == h) ds)))) in
            subst (λ (xs : List X). Matched IsOf xs (for_host h (ds ++ (a, c) ∷ []))) (sym (get_or-set_other hosts a h new [] ne))
            (subst (Matched IsOf (slice_index_or hosts h [])) (sym same) (all.each h (omega (arith, long))))
      ];
    }

-- the releases so far
released_more : (w : Scenario) (n : ℕ) → n < length w.steps → released w (n + 1) ≡ released w n + cond (is_release (step_at w n)) 1 0
released_more w n h = sum_by_more (λ x. cond (is_release x) 1 0) w.steps n Release h

released_rises : (w : Scenario) (i n : ℕ) → i ≤ n → released w i ≤ released w n
released_rises w i n h = subst (λ xs. count_by is_release xs ≤ released w n) (take-take i n w.steps h) (sum_by-take-le (λ x. cond (is_release x) 1 0) (take n w.steps) i)

and_false : (b : Bool) → (b && false) ≡ false
and_false true = refl
and_false false = refl

and_true : (b : Bool) → (b && true) ≡ b
and_true true = refl
and_true false = refl

filter_none : {X : Type 0} (p : X → Bool) (xs : List X) → All (λ x. p x ≡ false) xs → filter p xs ≡ []
filter_none p [] all = refl
filter_none p (x ∷ xs) all = rw (All-head (λ y. p y ≡ false) x xs all) (filter_none p xs (All-tail (λ y. p y ≡ false) x xs all))

-- nothing of what was sent before is held after a release
held_none : (w : Scenario) (n a : ℕ) (ps : List Packet) → n < length w.steps → is_release (step_at w n) ≡ true → All (λ (p : Packet). p.step_at < n + 1) ps →
    filter (is_held w (n + 1)) (enumerate_from a ps) ≡ []
held_none w n a [] h yes_release all = refl
held_none w n a (p ∷ ps) h yes_release all =
    let low : p.step_at < n + 1 = All-head (λ (q : Packet). q.step_at < n + 1) p ps all in
    let up : released w p.step_at ≤ released w n = released_rises w p.step_at n (omega arith) in
    let next : released w (n + 1) ≡ released w n + 1 = released_more w n h ∙ ap (λ b. released w n + cond b 1 0) yes_release in
    let gone : is_held w (n + 1) (a, p) ≡ false =
    elim (eqb_tells (released w p.step_at) (released w (n + 1))) [
      | inl same ↦ absurd (let e = same.1 in omega arith)
      | inr other ↦ rw other.0 (and_false (is_late p.fate))
    ] in
    rw gone (held_none w n (a + 1) ps h yes_release (All-tail (λ (q : Packet). q.step_at < n + 1) p ps all))

pub held_released : (w : Scenario) (n : ℕ) → n < length w.steps → is_release (step_at w n) ≡ true → held w (n + 1) ≡ []
held_released w n h yes_release =
    ap (map (λ (q : ℕ × Packet). q.0)) (held_none w n 0 (packets_until w (n + 1)) h yes_release (packets_before w (n + 1) (omega arith)))

-- a step that doesn't release keeps what is held, and adds its own late packets
pub held_more : (w : Scenario) (n : ℕ) → n < length w.steps → is_release (step_at w n) ≡ false →
    held w (n + 1) ≡ held w n ++ map (λ (q : ℕ × Packet). q.0) (filter (λ (q : ℕ × Packet). is_late q.1.fate) (enumerate_from (length (packets_until w n)) (packets_of w.flows (n, step_at w n))))
held_more w n h no_release =
    let same : released w (n + 1) ≡ released w n = released_more w n h ∙ ap (λ b. released w n + cond b 1 0) no_release ∙ add-zero (released w n) in
    let mine = packets_of w.flows (n, step_at w n) in
    let first : ℕ × Packet → ℕ = λ q. q.0 in
    ap (λ (r : ℕ). map first (filter (λ (q : ℕ × Packet). is_late q.1.fate && released w q.1.step_at == r) (enumerate_from 0 (packets_until w (n + 1))))) same
    ∙ ap (λ ps. map first (filter (is_held w n) (enumerate_from 0 ps))) (packets_more w n h)
    ∙ ap (λ qs. map first (filter (is_held w n) qs)) (enumerate_from-append 0 (packets_until w n) mine ∙ ap (λ k. enumerate_from 0 (packets_until w n) ++ enumerate_from k mine) (zero-add (length (packets_until w n))))
    ∙ ap (map first) (filter-append (is_held w n) (enumerate_from 0 (packets_until w n)) (enumerate_from (length (packets_until w n)) mine))
    ∙ map-append first (filter (is_held w n) (enumerate_from 0 (packets_until w n))) (filter (is_held w n) (enumerate_from (length (packets_until w n)) mine))
    ∙ ap (λ qs. held w n ++ map first qs) (own (length (packets_until w n)) mine (packets_at (λ a. a ≡ n) w.flows n (step_at w n) refl))
  where
    own : (a : ℕ) (ps : List Packet) → All (λ (p : Packet). p.step_at ≡ n) ps → filter (is_held w n) (enumerate_from a ps) ≡ filter (λ (q : ℕ × Packet). is_late q.1.fate) (enumerate_from a ps)
    own a [] all = refl
    own a (p ∷ ps) all =
        let at : p.step_at ≡ n = All-head (λ (q : Packet). q.step_at ≡ n) p ps all in
        let here : is_held w n (a, p) ≡ is_late p.fate = rw (at, eq-eqb (released w n) (released w n) refl) (and_true (is_late p.fate)) in
        rw here (ap (λ qs. cond (is_late p.fate) ((a, p) ∷ qs) qs) (own (a + 1) ps (All-tail (λ (q : Packet). q.step_at ≡ n) p ps all)))

-- ---- within a step

prefix_split : (w : Scenario) (n k : ℕ) → n ≤ length w.steps → k ≡ length (packets_until w n) → packets_to w k ≡ packets_until w n
prefix_split w n k h same =
    ap (packets_to w) same ∙ ap (take (length (packets_until w n))) (packets_split w n h) ∙ take-append_seam (packets_until w n) (packets_from w n)

-- before the first packet of a step
pub sent_none : (w : Scenario) (n k : ℕ) → n ≤ length w.steps → k ≡ length (packets_until w n) → sent_by w n k ≡ []
sent_none w n k h same =
    ap (λ ps. enumerate_from (length (packets_until w n)) (drop (length (packets_until w n)) ps)) (prefix_split w n k h same)
    ∙ ap (enumerate_from (length (packets_until w n))) (drop_of_length-le (packets_until w n) {i = length (packets_until w n)} (omega arith))

pub arrived_start : (w : Scenario) (n k : ℕ) → n ≤ length w.steps → k ≡ length (packets_until w n) → arrived_to w n k ≡ arrivals_until w n
arrived_start w n k h same = ap (λ qs. arrivals_until w n ++ flat_map arrives_of qs) (sent_none w n k h same) ∙ append-nil (arrivals_until w n)

pub held_start : (w : Scenario) (n k : ℕ) → n ≤ length w.steps → k ≡ length (packets_until w n) → held_to w n k ≡ held w n
held_start w n k h same =
    ap (λ (qs : List (ℕ × Packet)). held w n ++ map (λ (q : ℕ × Packet). q.0) (filter (λ (q : ℕ × Packet). is_late q.1.fate) qs)) (sent_none w n k h same) ∙ append-nil (held w n)

-- one packet more
pub sent_more : (w : Scenario) (n k : ℕ) → length (packets_until w n) ≤ k → k < length (packets w) → sent_by w n (k + 1) ≡ sent_by w n k ++ (k, packet_at w k) ∷ []
sent_more w n k low inside =
    let a = length (packets_until w n) in
    let front : length (packets_to w k) ≡ k = omega (arith, length-take k (packets w)) in
    let rest : length (drop a (packets_to w k)) ≡ k - a = omega (arith, length-drop a (packets_to w k)) in
    let number : a + length (drop a (packets_to w k)) ≡ k = omega arith in
    ap (λ ps. enumerate_from a (drop a ps)) (take_more (packets w) k no_packet inside)
    ∙ ap (enumerate_from a) (drop-append-le a (packets_to w k) (packet_at w k ∷ []) (omega arith))
    ∙ enumerate_from-append a (drop a (packets_to w k)) (packet_at w k ∷ [])
    ∙ ap (λ (j : ℕ). sent_by w n k ++ (j, packet_at w k) ∷ []) number

pub arrived_more : (w : Scenario) (n k : ℕ) → length (packets_until w n) ≤ k → k < length (packets w) → arrived_to w n (k + 1) ≡ arrived_to w n k ++ arrives (packet_at w k).fate k
arrived_more w n k low inside =
    ap (λ qs. arrivals_until w n ++ flat_map arrives_of qs) (sent_more w n k low inside)
    ∙ ap (λ xs. arrivals_until w n ++ xs) (flat_map-append arrives_of (sent_by w n k) ((k, packet_at w k) ∷ [])
    ∙ ap (λ xs. flat_map arrives_of (sent_by w n k) ++ xs) (append-nil (arrives (packet_at w k).fate k)))
    ∙ sym (append_assoc (arrivals_until w n) (flat_map arrives_of (sent_by w n k)) (arrives (packet_at w k).fate k))

pub held_one_more : (w : Scenario) (n k : ℕ) → length (packets_until w n) ≤ k → k < length (packets w) → held_to w n (k + 1) ≡ held_to w n k ++ cond (is_late (packet_at w k).fate) (k ∷ []) []
held_one_more w n k low inside =
    let late : ℕ × Packet → Bool = λ q. is_late q.1.fate in
    let first : ℕ × Packet → ℕ = λ q. q.0 in
    let one : map first (filter late ((k, packet_at w k) ∷ [])) ≡ cond (is_late (packet_at w k).fate) (k ∷ []) [] =
    (elim (is_late (packet_at w k).fate) as (λ (b : Bool). map first (cond b ((k, packet_at w k) ∷ []) []) ≡ cond b (k ∷ []) []) [ true ↦ refl | false ↦ refl ]) in
    ap (λ qs. held w n ++ map first (filter late qs)) (sent_more w n k low inside)
    ∙ ap (λ qs. held w n ++ map first qs) (filter-append late (sent_by w n k) ((k, packet_at w k) ∷ []))
    ∙ ap (λ xs. held w n ++ xs) (map-append first (filter late (sent_by w n k)) (filter late ((k, packet_at w k) ∷ [])) ∙ ap (λ xs. map first (filter late (sent_by w n k)) ++ xs) one)
    ∙ sym (append_assoc (held w n) (map first (filter late (sent_by w n k))) (cond (is_late (packet_at w k).fate) (k ∷ []) []))

-- after the last packet of a step that releases nothing
sent_all : (w : Scenario) (n k : ℕ) → n < length w.steps → k ≡ length (packets_until w (n + 1)) → sent_by w n k ≡ enumerate_from (length (packets_until w n)) (packets_of w.flows (n, step_at w n))
sent_all w n k h same =
    ap (λ ps. enumerate_from (length (packets_until w n)) (drop (length (packets_until w n)) ps)) (prefix_split w (n + 1) k (omega arith) same ∙ packets_more w n h)
    ∙ ap (enumerate_from (length (packets_until w n))) (drop-append_seam (packets_until w n) (packets_of w.flows (n, step_at w n)))

pub arrived_end : (w : Scenario) (n k : ℕ) → n < length w.steps → k ≡ length (packets_until w (n + 1)) → is_release (step_at w n) ≡ false → arrived_to w n k ≡ arrivals_until w (n + 1)
arrived_end w n k h same no_release =
    ap (λ qs. arrivals_until w n ++ flat_map arrives_of qs) (sent_all w n k h same)
    ∙ sym (arrivals_more w n h ∙ ap (λ xs. arrivals_until w n ++ xs) (ap (λ (b : Bool). flat_map arrives_of (enumerate_from (length (packets_until w n)) (packets_of w.flows (n, step_at w n))) ++ cond b (reverse (held w n)) []) no_release
    ∙ append-nil (flat_map arrives_of (enumerate_from (length (packets_until w n)) (packets_of w.flows (n, step_at w n))))))

pub held_end : (w : Scenario) (n k : ℕ) → n < length w.steps → k ≡ length (packets_until w (n + 1)) → is_release (step_at w n) ≡ false → held_to w n k ≡ held w (n + 1)
held_end w n k h same no_release =
    ap (λ (qs : List (ℕ × Packet)). held w n ++ map (λ (q : ℕ × Packet). q.0) (filter (λ (q : ℕ × Packet). is_late q.1.fate) qs)) (sent_all w n k h same)
    ∙ sym (held_more w n h no_release)

-- a release
pub arrivals_released : (w : Scenario) (n : ℕ) → n < length w.steps → step_at w n ≡ Release → arrivals_until w (n + 1) ≡ arrivals_until w n ++ reverse (held w n)
arrivals_released w n h step = arrivals_more w n h ∙ ap (λ xs. arrivals_until w n ++ xs) (ap (λ (s : Step). arrivals_at w (n, s)) step)

-- all numbers are those of packets sent before
below_append : (k : ℕ) (xs ys : List ℕ) → All (λ j. j < k) xs → All (λ j. j < k) ys → All (λ j. j < k) (xs ++ ys)
below_append k xs ys = All-append (λ j. j < k) xs ys

arrives_below : (k : ℕ) (fate : Fate) (j : ℕ) → j < k → All (λ i. i < k) (arrives fate j)
arrives_below k Straight j h = All-cons (λ i. i < k) j [] h (All-nil (λ i. i < k))
arrives_below k (Lost l) j h = All-nil (λ i. i < k)
arrives_below k Twice j h = All-cons (λ i. i < k) j (j ∷ []) h (All-cons (λ i. i < k) j [] h (All-nil (λ i. i < k)))
arrives_below k Late j h = All-nil (λ i. i < k)

all_arrive_below : (k a : ℕ) (ps : List Packet) → a + length ps ≤ k → All (λ i. i < k) (flat_map arrives_of (enumerate_from a ps))
all_arrive_below k a [] h = All-nil (λ i. i < k)
all_arrive_below k a (p ∷ ps) h =
    let one : a < k = omega arith in
    below_append k (arrives p.fate a) (flat_map arrives_of (enumerate_from (a + 1) ps)) (arrives_below k p.fate a one) (all_arrive_below k (a + 1) ps (omega arith))

all_held_below : (p : ℕ × Packet → Bool) (k a : ℕ) (ps : List Packet) → a + length ps ≤ k → All (λ i. i < k) (map (λ (q : ℕ × Packet). q.0) (filter p (enumerate_from a ps)))
all_held_below p k a [] h = All-nil (λ i. i < k)
all_held_below p k a (x ∷ ps) h =
    let one : a < k = omega arith in
    let rest : All (λ i. i < k) (map (λ (q : ℕ × Packet). q.0) (filter p (enumerate_from (a + 1) ps))) = all_held_below p k (a + 1) ps (omega arith) in
    elim (p (a, x)) as (λ (b : Bool). All (λ i. i < k) (map (λ (q : ℕ × Packet). q.0) (cond b ((a, x) ∷ filter p (enumerate_from (a + 1) ps)) (filter p (enumerate_from (a + 1) ps))))) [
      | true ↦ All-cons (λ i. i < k) a (map (λ (q : ℕ × Packet). q.0) (filter p (enumerate_from (a + 1) ps))) one rest
      | false ↦ rest
    ]

pub held_below : (w : Scenario) (n k : ℕ) → length (packets_until w n) ≤ k → All (λ i. i < k) (held w n)
held_below w n k h = all_held_below (is_held w n) k 0 (packets_until w n) (omega arith)

pub until_more : (w : Scenario) (n : ℕ) → n < length w.steps → length (packets_until w (n + 1)) ≡ length (packets_until w n) + length (packets_of w.flows (n, step_at w n))
until_more w n h = ap length (packets_more w n h) ∙ length-append (packets_until w n) (packets_of w.flows (n, step_at w n))

pub arrivals_below : (w : Scenario) (n k : ℕ) → n ≤ length w.steps → length (packets_until w n) ≤ k → All (λ i. i < k) (arrivals_until w n)
arrivals_below w zero k h low = All-nil (λ i. i < k)
arrivals_below w (suc n) k h low =
    let next : suc n ≡ n + 1 = omega arith in
    let mine = packets_of w.flows (n, step_at w n) in
    let long : length (packets_until w n) + length mine ≤ k = omega (arith, until_more w n (omega arith), ap (λ a. length (packets_until w a)) next) in
    subst (All (λ i. i < k)) (sym (ap (arrivals_until w) next ∙ arrivals_more w n (omega arith)))
    (below_append k (arrivals_until w n) (arrivals_at w (n, step_at w n)) (arrivals_below w n k (omega arith) (omega arith))
    (below_append k (flat_map arrives_of (enumerate_from (length (packets_until w n)) mine)) (cond (is_release (step_at w n)) (reverse (held w n)) [])
    (all_arrive_below k (length (packets_until w n)) mine long)
    (elim (is_release (step_at w n)) as (λ (b : Bool). All (λ i. i < k) (cond b (reverse (held w n)) [])) [
      | true ↦ reverse_below k (held w n) (held_below w n k (omega arith))
      | false ↦ All-nil (λ i. i < k)
    ])))
  where
    reverse_below : (k : ℕ) (xs : List ℕ) → All (λ i. i < k) xs → All (λ i. i < k) (reverse xs)
    reverse_below k [] all = All-nil (λ i. i < k)
    reverse_below k (x ∷ xs) all =
        subst (All (λ i. i < k)) (sym (reverse-append (x ∷ []) xs))
        (below_append k (reverse xs) (x ∷ []) (reverse_below k xs (All-tail (λ i. i < k) x xs all)) (All-cons (λ i. i < k) x [] (All-head (λ i. i < k) x xs all) (All-nil (λ i. i < k))))

sent_long : (w : Scenario) (n k : ℕ) → length (packets_until w n) ≤ k → length (packets_until w n) + length (drop (length (packets_until w n)) (packets_to w k)) ≤ k
sent_long w n k low = omega (arith, length-drop (length (packets_until w n)) (packets_to w k), length-take k (packets w))

pub arrived_below : (w : Scenario) (n k : ℕ) → n ≤ length w.steps → length (packets_until w n) ≤ k → All (λ i. i < k) (arrived_to w n k)
arrived_below w n k h low =
    below_append k (arrivals_until w n) (flat_map arrives_of (sent_by w n k)) (arrivals_below w n k h low)
    (all_arrive_below k (length (packets_until w n)) (drop (length (packets_until w n)) (packets_to w k)) (sent_long w n k low))

pub held_to_below : (w : Scenario) (n k : ℕ) → length (packets_until w n) ≤ k → All (λ i. i < k) (held_to w n k)
held_to_below w n k low =
    below_append k (held w n) (map (λ (q : ℕ × Packet). q.0) (filter (λ (q : ℕ × Packet). is_late q.1.fate) (sent_by w n k))) (held_below w n k low)
    (all_held_below (λ (q : ℕ × Packet). is_late q.1.fate) k (length (packets_until w n)) (drop (length (packets_until w n)) (packets_to w k)) (sent_long w n k low))
