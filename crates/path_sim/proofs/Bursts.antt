-- The packets of a step, counted hop by hop, are counted as if each had gone its way before the next.
use Rattle.std.specs.Prelude.{◌≡◌, ◌≢◌, ℕ, zero, suc, ◌+◌, ◌<◌, false, ◌==◌, List, [], ◌∷◌, ◌++◌, map, take, length, replicate, Option, None, Some}
use Rattle.std.specs.Prelude.{slice_index, slice_index_or, slice_set}
use Rattle.std.specs.List.{flat_map, filter_map, cons_option, enumerate_from, AllPairs}
use Rattle.std.specs.Fn.{iterate}
use Rattle.std.proofs.Common.{refl, sym, ap, ◌∙◌, subst, arith, append-nil, append_assoc, inl, inr}
use Rattle.std.proofs.lemmas.Bool.Decides.{eqb_tells}
use Rattle.std.proofs.lemmas.Grind.{flat_map-append}
use Rattle.std.proofs.lemmas.List.{get_or-set_same, set-get_or, length-set, length-take, take_more}
use Rattle.std.proofs.lemmas.List.Elements.{filter_map-append}
use Rattle.lg_model.specs.Scenario.{Scenario, ended}
use Rattle.lg_model.specs.Placing.{places_of}
use Rattle.lg_model.specs.Sketch.{table_of, raise}
use Rattle.lg_model.specs.Trace.{Packet, Meeting, Observation, reach, meeting_of, meetings_of, observation, observed, seen_in}
use Rattle.lg_model.specs.Carrying as model
use Rattle.lg_model.specs.TwinsState.{TwinsState, IsTwinsState, AreTwins, with_seen}
use Rattle.lg_model.proofs.Twinning.{twins_see}
use Rattle.lg_model.proofs.Tracing.{enumerate_from-append, meetings_on}

-- ---- lists

-- a place that is set again
set_again : {X : Type 0} (xs : List X) (i : ℕ) (x y : X) → slice_set (slice_set xs i x) i y ≡ slice_set xs i y
set_again [] i x y = refl
set_again (z ∷ xs) zero x y = refl
set_again (z ∷ xs) (suc i) x y = ap (λ ys. z ∷ ys) (set_again xs i x y)

-- The same thing n times, if there is one.
abbrev copies : {X : Type 0} → ℕ → Option X → List X
copies n None = []
copies n (Some x) = replicate n x

-- The same list n times.
abbrev repeated : {X : Type 0} → ℕ → List X → List X
repeated zero xs = []
repeated (suc n) xs = xs ++ repeated n xs

repeated_none : {X : Type 0} (n : ℕ) → repeated {X = X} n [] ≡ []
repeated_none zero = refl
repeated_none (suc n) = repeated_none n

repeated_one : {X : Type 0} (n : ℕ) (x : X) → repeated n (x ∷ []) ≡ replicate n x
repeated_one zero x = refl
repeated_one (suc n) x = ap (λ xs. x ∷ xs) (repeated_one n x)

copies_cons : {X : Type 0} (n : ℕ) (o : Option X) → copies (suc n) o ≡ cons_option o (copies n o)
copies_cons n None = refl
copies_cons n (Some x) = refl

cons_append : {X : Type 0} (o : Option X) (xs ys : List X) → cons_option o xs ++ ys ≡ cons_option o (xs ++ ys)
cons_append None xs ys = refl
cons_append (Some x) xs ys = refl

-- ---- what a switch sees of a burst

-- The meetings of b packets from the given number on at one hop.
abbrev pub burst_at : Packet → ℕ × ℕ → (number b : ℕ) → List Meeting
burst_at p hop number zero = []
burst_at p hop number (suc b) = meeting_of number p hop ∷ burst_at p hop (suc number) b

-- The same at all these hops, hop after hop.
abbrev pub by_hops : Packet → (number b : ℕ) → List (ℕ × ℕ) → List Meeting
by_hops p number b hops = flat_map (λ hop. burst_at p hop number b) hops

-- What the switch at position s sees of a packet at a hop in epoch e.
abbrev seen_at : Scenario → (s e : ℕ) → Packet → ℕ × ℕ → Option Observation
seen_at w s e p hop = observed w s e (meeting_of 0 p hop)

seen_burst : (w : Scenario) (s e : ℕ) (p : Packet) (hop : ℕ × ℕ) (number b : ℕ) → seen_in w s e (burst_at p hop number b) ≡ copies b (seen_at w s e p hop)
seen_burst w s e p hop number zero = (elim (seen_at w s e p hop) as (λ o. [] ≡ copies zero o) [
  | None ↦ refl
  | Some x ↦ refl
])
seen_burst w s e p hop number (suc b) = ap (cons_option (seen_at w s e p hop)) (seen_burst w s e p hop (suc number) b)
    ∙ sym (copies_cons b (seen_at w s e p hop))

seen_by_hops : (w : Scenario) (s e : ℕ) (p : Packet) (number b : ℕ) (hops : List (ℕ × ℕ)) →
    seen_in w s e (by_hops p number b hops) ≡ flat_map (λ hop. copies b (seen_at w s e p hop)) hops
seen_by_hops w s e p number b [] = refl
seen_by_hops w s e p number b (hop ∷ hops) =
    filter_map-append (observed w s e) (burst_at p hop number b) (by_hops p number b hops)
    ∙ ap (λ xs. xs ++ seen_in w s e (by_hops p number b hops)) (seen_burst w s e p hop number b)
    ∙ ap (λ xs. copies b (seen_at w s e p hop) ++ xs) (seen_by_hops w s e p number b hops)

-- The hops that a packet reaches.
abbrev pub hops_of : Packet → List (ℕ × ℕ)
hops_of p = enumerate_from 0 (take (reach p) p.flow.path)

seen_of_one : (w : Scenario) (s e : ℕ) (p : Packet) (number : ℕ) (hops : List (ℕ × ℕ)) →
    filter_map (observed w s e) (map (meeting_of number p) hops) ≡ filter_map (seen_at w s e p) hops
seen_of_one w s e p number [] = refl
seen_of_one w s e p number (hop ∷ hops) = ap (cons_option (seen_at w s e p hop)) (seen_of_one w s e p number hops)

seen_by_packets : (w : Scenario) (s e : ℕ) (p : Packet) (number b : ℕ) →
    seen_in w s e (meetings_on number (replicate b p)) ≡ repeated b (filter_map (seen_at w s e p) (hops_of p))
seen_by_packets w s e p number zero = refl
seen_by_packets w s e p number (suc b) =
    filter_map-append (observed w s e) (meetings_of (number, p)) (meetings_on (number + 1) (replicate b p))
    ∙ ap (λ xs. xs ++ seen_in w s e (meetings_on (number + 1) (replicate b p))) (seen_of_one w s e p number (hops_of p))
    ∙ ap (λ xs. filter_map (seen_at w s e p) (hops_of p) ++ xs) (seen_by_packets w s e p (number + 1) b)

-- at another switch nothing is seen
not_seen : (w : Scenario) (s e : ℕ) (p : Packet) (k t : ℕ) → (t == s) ≡ false → seen_at w s e p (k, t) ≡ None
not_seen w s e p k t other = rw other refl

none_seen : (w : Scenario) (s e : ℕ) (p : Packet) (b a : ℕ) (xs : List ℕ) → ((k : ℕ) → k < length xs → s ≢ slice_index xs k) →
    (flat_map (λ hop. copies b (seen_at w s e p hop)) (enumerate_from a xs) ≡ []) × (filter_map (seen_at w s e p) (enumerate_from a xs) ≡ [])
none_seen w s e p b a [] others = (refl, refl)
none_seen w s e p b a (t ∷ xs) others =
    let other : (t == s) ≡ false = elim (eqb_tells t s) [
      | inl same ↦ absurd (others 0 (omega arith) (sym same.1))
      | inr apart ↦ apart.0
    ] in
    let rest = none_seen w s e p b (a + 1) xs (λ k h. others (suc k) (omega (arith, h))) in
    rw (not_seen w s e p a t other) rest

-- on a path that comes to no switch twice, the packets one after the other and hop after hop are seen alike
alike : (w : Scenario) (s e : ℕ) (p : Packet) (b a : ℕ) (xs : List ℕ) → AllPairs (λ x y. x ≢ y) xs →
    flat_map (λ hop. copies b (seen_at w s e p hop)) (enumerate_from a xs) ≡ repeated b (filter_map (seen_at w s e p) (enumerate_from a xs))
alike w s e p b a [] apart = sym (repeated_none b)
alike w s e p b a (t ∷ xs) apart =
    let rest : AllPairs (λ x y. x ≢ y) xs = λ i j d h l. apart (suc i) (suc j) d (omega (arith, h)) (omega (arith, l)) in
    elim (eqb_tells t s) [
      | inl same ↦
          let none = none_seen w s e p b (a + 1) xs (λ k h. subst (λ (x : ℕ). x ≢ slice_index xs k) same.1 (apart 0 (suc k) 0 (omega arith) (omega (arith, h)))) in
          (elim (seen_at w s e p (a, t)) as (λ (o : Option Observation).
          copies b o ++ flat_map (λ hop. copies b (seen_at w s e p hop)) (enumerate_from (a + 1) xs)
          ≡ repeated b (cons_option o (filter_map (seen_at w s e p) (enumerate_from (a + 1) xs)))) [
            | None ↦ rw (none.0, none.1) (sym (repeated_none b))
            | Some x ↦ rw (none.0, none.1) (append-nil (replicate b x) ∙ sym (repeated_one b x))
          ])
      | inr other ↦ rw (not_seen w s e p a t other.0) (alike w s e p b (a + 1) xs rest)
    ]

-- ---- the twins

-- so many packets of one observation
abbrev pub with_burst : TwinsState → (b : ℕ) → Observation → TwinsState
with_burst t b x = record t { current = iterate (raise (slice_index (places_of t.shape x.key)) x.size x.delay) b t.current }

seen_more : (t : TwinsState) (b : ℕ) (x : Observation) → with_burst (with_seen t x) b x ≡ with_burst t (suc b) x
seen_more t b x = refl

-- the packets of a step are counted at one hop
pub twins_burst : (w : Scenario) (ms : List Meeting) (cs : List model.Carry) (ts : List TwinsState) (p : Packet) (hop : ℕ × ℕ) (number b : ℕ) (d : TwinsState) →
    AreTwins w p.step_at ms cs ts → hop.1 < length ts →
    AreTwins w p.step_at (ms ++ burst_at p hop number b) cs
    (slice_set ts hop.1 (with_burst (slice_index_or ts hop.1 d) b (observation (meeting_of 0 p hop))))
twins_burst w ms cs ts p hop number zero d all inside =
    rw (append-nil ms, set-get_or ts hop.1 d) all
twins_burst w ms cs ts p hop number (suc b) d all inside =
    let x : Observation = observation (meeting_of 0 p hop) in
    let t : TwinsState = slice_index_or ts hop.1 d in
    let one : AreTwins w p.step_at (ms ++ meeting_of number p hop ∷ []) cs (slice_set ts hop.1 (with_seen t x)) =
    twins_see w p.step_at ms cs ts (meeting_of number p hop) d all refl inside in
    let more = twins_burst w (ms ++ meeting_of number p hop ∷ []) cs (slice_set ts hop.1 (with_seen t x)) p hop (suc number) b d one
    (omega (arith, inside, length-set ts hop.1 (with_seen t x))) in
    let at : slice_index_or (slice_set ts hop.1 (with_seen t x)) hop.1 d ≡ with_seen t x = get_or-set_same ts hop.1 (with_seen t x) d inside in
    let lists : (ms ++ meeting_of number p hop ∷ []) ++ burst_at p hop (suc number) b ≡ ms ++ burst_at p hop number (suc b) =
    append_assoc ms (meeting_of number p hop ∷ []) (burst_at p hop (suc number) b) in
    let sets : slice_set (slice_set ts hop.1 (with_seen t x)) hop.1 (with_burst (slice_index_or (slice_set ts hop.1 (with_seen t x)) hop.1 d) b x)
    ≡ slice_set ts hop.1 (with_burst t (suc b) x) =
    ap (λ (y : TwinsState). slice_set (slice_set ts hop.1 (with_seen t x)) hop.1 (with_burst y b x)) at
    ∙ set_again ts hop.1 (with_seen t x) (with_burst (with_seen t x) b x) in
    rw (← lists, ← sets) more

-- one hop more
pub by_hops_more : (p : Packet) (number b : ℕ) (xs : List ℕ) (k : ℕ) → k < length xs →
    by_hops p number b (enumerate_from 0 (take (k + 1) xs)) ≡ by_hops p number b (enumerate_from 0 (take k xs)) ++ burst_at p (k, slice_index xs k) number b
by_hops_more p number b xs k h =
    let long : 0 + length (take k xs) ≡ k = omega (arith, h, length-take k xs) in
    ap (λ ys. by_hops p number b (enumerate_from 0 ys)) (take_more xs k 0 h)
    ∙ ap (by_hops p number b) (enumerate_from-append 0 (take k xs) (slice_index xs k ∷ [])
    ∙ ap (λ n. enumerate_from 0 (take k xs) ++ (n, slice_index xs k) ∷ []) long)
    ∙ flat_map-append (λ hop. burst_at p hop number b) (enumerate_from 0 (take k xs)) ((k, slice_index xs k) ∷ [])
    ∙ ap (λ ms. by_hops p number b (enumerate_from 0 (take k xs)) ++ ms) (append-nil (burst_at p (k, slice_index xs k) number b))

-- hop after hop is packet after packet
pub twins_alike : (w : Scenario) (ms : List Meeting) (cs : List model.Carry) (ts : List TwinsState) (p : Packet) (number b n : ℕ) →
    AllPairs (λ x y. x ≢ y) (take (reach p) p.flow.path) →
    AreTwins w n (ms ++ by_hops p number b (hops_of p)) cs ts → AreTwins w n (ms ++ meetings_on number (replicate b p)) cs ts
twins_alike w ms cs ts p number b n apart all = record {
  count = all.count;
  past = all.past;
  each = λ s d h.
      let is : IsTwinsState w n (ms ++ by_hops p number b (hops_of p)) cs s (slice_index_or ts s d) = all.each s d h in
      let e = ended w s n in
      let same : seen_in w s e (ms ++ by_hops p number b (hops_of p)) ≡ seen_in w s e (ms ++ meetings_on number (replicate b p)) =
      filter_map-append (observed w s e) ms (by_hops p number b (hops_of p))
      ∙ ap (λ xs. seen_in w s e ms ++ xs) (seen_by_hops w s e p number b (hops_of p) ∙ alike w s e p b 0 (take (reach p) p.flow.path) apart
      ∙ sym (seen_by_packets w s e p number b))
      ∙ sym (filter_map-append (observed w s e) ms (meetings_on number (replicate b p))) in
      record {
        shape = is.shape;
        epoch = is.epoch;
        current = is.current ∙ ap (table_of w.shape) same;
        frozen = is.frozen;
        put = is.put;
        times = is.times;
      };
}
