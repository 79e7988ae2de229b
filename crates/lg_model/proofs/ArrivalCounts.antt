-- At most two arrivals for each packet.
use Rattle.std.specs.Prelude.{◌≡◌, ℕ, zero, suc, ◌+◌, ◌*◌, ◌<◌, ◌≤◌, Bool, true, false, cond, List, [], ◌∷◌, ◌++◌, map, length, reverse, filter, Option, None, Some}
use Rattle.std.specs.List.{flat_map, filter_map, enumerate_from, cons_option}
use Rattle.std.proofs.Common.{refl, sym, ap, ◌∙◌, subst, arith}
use Rattle.std.proofs.lemmas.List.{length-append, length-map, length-reverse}
use Rattle.lg_model.specs.declared.scenario.Fate.{Fate}
use Rattle.lg_model.specs.declared.scenario.Fate.TheVariants.{Straight, Lost, Twice, Late}
use Rattle.lg_model.specs.Scenario.{Scenario, packet_count}
use Rattle.lg_model.specs.Trace.{Packet, packets, packets_of, packets_until}
use Rattle.lg_model.specs.Columns.{Column}
use Rattle.lg_model.specs.Carrying.{Carry}
use Rattle.lg_model.specs.Arriving.{is_release, is_late, arrives, arrives_of, arrivals, arrivals_at, arrivals_until, held, brings, deliveries, for_host, brought}
use Rattle.lg_model.specs.Counting.{LawOfTheArrivals}
use Rattle.lg_model.proofs.Tracing.{step_at, length_packets, packets_split}
use Rattle.lg_model.proofs.Arrivals.{arrivals_more, held_more, held_released, until_more}

abbrev late : ℕ × Packet → Bool
late q = is_late q.1.fate

abbrev number : ℕ × Packet → ℕ
number q = q.0

-- packets that are sent one after the other: each arrives at most twice, or is held once
sent_count : (a : ℕ) (ps : List Packet) → length (flat_map arrives_of (enumerate_from a ps)) + length (map number (filter late (enumerate_from a ps))) ≤ 2 * length ps
sent_count a [] = omega arith
sent_count a (p ∷ ps) =
    let arrived : List ℕ = flat_map arrives_of (enumerate_from (a + 1) ps) in
    let waiting : List (ℕ × Packet) = filter late (enumerate_from (a + 1) ps) in
    let rest : length arrived + length (map number waiting) ≤ 2 * length ps = sent_count (a + 1) ps in
    elim p.fate as (λ (f : Fate). length (arrives f a ++ arrived) + length (map number (cond (is_late f) ((a, p) ∷ waiting) waiting)) ≤ 2 * length (p ∷ ps)) [
      | Straight ↦ omega arith
      | Lost k ↦ omega arith
      | Twice ↦ omega arith
      | Late ↦ omega arith
    ]

-- after some of the steps: what arrived, and what is held
counted : (w : Scenario) (n : ℕ) → n ≤ length w.steps → length (arrivals_until w n) + length (held w n) ≤ 2 * length (packets_until w n)
counted w zero h = omega arith
counted w (suc n) h =
    let low : n < length w.steps = omega arith in
    let step = step_at w n in
    let a : ℕ = length (packets_until w n) in
    let mine : List Packet = packets_of w.flows (n, step) in
    let arrived : List ℕ = flat_map arrives_of (enumerate_from a mine) in
    let waiting : List ℕ = map number (filter late (enumerate_from a mine)) in
    let old : length (arrivals_until w n) + length (held w n) ≤ 2 * a = counted w n (omega arith) in
    let own : length arrived + length waiting ≤ 2 * length mine = sent_count a mine in
    let sent : length (packets_until w (n + 1)) ≡ a + length mine = until_more w n low in
    let came : length (arrivals_until w (n + 1)) ≡ length (arrivals_until w n) + length (arrivals_at w (n, step)) =
    ap length (arrivals_more w n low) ∙ length-append (arrivals_until w n) (arrivals_at w (n, step)) in
    let now : length (arrivals_until w (n + 1)) + length (held w (n + 1)) ≤ 2 * length (packets_until w (n + 1)) =
    (elim (is_release step) as (λ (b : Bool). is_release step ≡ b → length (arrivals_until w (n + 1)) + length (held w (n + 1)) ≤ 2 * length (packets_until w (n + 1))) [
      | true ↦ λ q.
          let let_go : length (arrivals_at w (n, step)) ≡ length arrived + length (held w n) =
          ap (λ (b : Bool). length (arrived ++ cond b (reverse (held w n)) [])) q ∙ length-append arrived (reverse (held w n)) ∙ ap (λ k. length arrived + k) (length-reverse (held w n)) in
          let none : length (held w (n + 1)) ≡ 0 = ap length (held_released w n low q) in
          omega arith
      | false ↦ λ q.
          let straight : length (arrivals_at w (n, step)) ≡ length arrived + 0 = ap (λ (b : Bool). length (arrived ++ cond b (reverse (held w n)) [])) q ∙ length-append arrived [] in
          let more : length (held w (n + 1)) ≡ length (held w n) + length waiting = ap length (held_more w n low q) ∙ length-append (held w n) waiting in
          omega arith
    ]) refl in
    let next : suc n ≡ n + 1 = omega arith in
    subst (λ k. length (arrivals_until w k) + length (held w k) ≤ 2 * length (packets_until w k)) (sym next) now

all_arrivals : (w : Scenario) → length (arrivals w) ≤ 2 * packet_count w.steps
all_arrivals w =
    let n = length w.steps in
    let all : length (arrivals_until w n) + length (held w n) ≤ 2 * length (packets_until w n) = counted w n (omega arith) in
    let until : arrivals_until w n ≡ flat_map (arrivals_at w) (enumerate_from 0 w.steps) = ap (λ xs. flat_map (arrivals_at w) (enumerate_from 0 xs)) (take_whole w.steps) in
    let sent : packets_until w n ≡ packets w = ap (λ xs. flat_map (packets_of w.flows) (enumerate_from 0 xs)) (take_whole w.steps) in
    omega (arith, ap length until, ap length sent, length_packets w, length-append (flat_map (arrivals_at w) (enumerate_from 0 w.steps)) (reverse (held w n)), length-reverse (held w n))
  where
    take_whole : {X : Type 0} (xs : List X) → Rattle.std.specs.Prelude.take (length xs) xs ≡ xs
    take_whole xs = Rattle.std.proofs.Common.take_all (length xs) xs (omega arith)

-- each brings at most one column, to one host
few_delivered : (w : Scenario) (cs : List Carry) (ks : List ℕ) → length (deliveries w cs ks) ≤ length ks
few_delivered w cs [] = omega arith
few_delivered w cs (k ∷ ks) =
    let rest = few_delivered w cs ks in
    elim (brings w cs k) as (λ (o : Option (ℕ × Column)). length (cons_option o (deliveries w cs ks)) ≤ length (k ∷ ks)) [
      | None ↦ omega arith
      | Some d ↦ omega arith
    ]

few_for_host : (h : ℕ) (ds : List (ℕ × Column)) → length (for_host h ds) ≤ length ds
few_for_host h [] = omega arith
few_for_host h (d ∷ ds) =
    let rest = few_for_host h ds in
    let its : ℕ × Column → Bool = λ x. Rattle.std.specs.Prelude.◌==◌ x.0 h in
    elim (its d) as (λ (b : Bool). length (map (λ (x : ℕ × Column). x.1) (cond b (d ∷ filter its ds) (filter its ds))) ≤ length (d ∷ ds)) [
      | true ↦ omega arith
      | false ↦ omega arith
    ]

pub few_brought : LawOfTheArrivals
few_brought w cs h = omega (arith, few_for_host h (deliveries w cs (arrivals w)), few_delivered w cs (arrivals w), all_arrivals w)
