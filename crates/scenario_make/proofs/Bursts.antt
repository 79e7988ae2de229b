-- The bursts of generated scenarios are steps, and their lines are short.
use Rattle.std.specs.Prelude.{◌≡◌, ◌==◌, ℕ, ◌+◌, ◌<◌, ◌≤◌, ◌-◌, ◌%◌, ◌||◌, Bool, true, false, [], ◌∷◌, length, All, map, slice_index, if◌then◌else◌}
use Rattle.std.specs.Fmt.{decimal, digits}
use Rattle.std.specs.List.{range_with_len}
use Rattle.std.proofs.Common.{refl, sym, subst, arith}
use Rattle.std.proofs.lemmas.Fmt.{length-decimal-le}
use Rattle.std.proofs.lemmas.List.Elements.{All-nil, All-cons, All-append, All-map}
use Rattle.lg_model.specs.declared.scenario.Fate.{Fate}
use Rattle.lg_model.specs.declared.scenario.Fate.TheVariants as fates
use Rattle.lg_model.specs.declared.scenario.Step.{Step}
use Rattle.lg_model.specs.declared.scenario.Step.TheVariants.{Packet, EndAll}
use Rattle.lg_model.specs.Keeping.{IsStep, names_of}
use Rattle.lg_model.specs.Scenario.{flow_at, reached}
use Rattle.scenario_lines.specs.Spelling.{size, burst_words, fate_words, step_words}
use Rattle.scenario_lines.proofs.SizeLemmas.{size_append}
use Rattle.scenario_make.specs.Generator.{generated_switches, flow_names, generated_flows, burst_number, size_of, delay_of, fate_of, generated_burst}
use Rattle.scenario_make.specs.Generator.{generated_end, generated_round, last_burst, generated_rounds, generated_steps}
use Rattle.scenario_make.proofs.Lists.{of_each_flow, of_all_pieces}

-- A step of a generated scenario: it fits what is declared, can be read again, and its line has at most 1,000 bytes.
pub record IsFine (t : Step) : Type 0 where
  pub fits : IsStep 4 generated_flows t
  pub short : size (step_words generated_flows generated_switches t) ≤ 1000

-- A fate that reaches no more than the three hops, and whose words are short.
record IsFineFate (x : Fate) : Type 0 where
  reaches : reached x 3 ≤ 3
  short : size (fate_words x) ≤ 20

lost_fine : IsFineFate (fates.Lost 1)
unfolding digits
lost_fine = record { reaches = omega arith; short = omega arith }

fate_fine : (m : ℕ) → IsFineFate (fate_of m)
fate_fine m = by (m % 16 == 3) (m % 16 == 7) (m % 16 == 11)
  where
    by : (a b c : Bool) → IsFineFate (if a then fates.Lost 1 else (if b then fates.Twice else (if c then fates.Late else fates.Straight)))
    by true b c = lost_fine
    by false true c = record { reaches = omega arith; short = omega arith }
    by false false true = record { reaches = omega arith; short = omega arith }
    by false false false = record { reaches = omega arith; short = omega arith }

-- A number of at most five digits.
short_number : (n : ℕ) → n < 100000 → length (decimal n) ≤ 5
short_number n low = length-decimal-le 5 n (omega arith) (omega (arith, low)) (omega (arith, low))

-- The flow of that name stands at that position, and has three hops.
record IsAt (at name : ℕ) : Type 0 where
  inside : at < 8
  hops : 3 ≡ length (flow_at generated_flows at).path
  named : slice_index (names_of generated_flows) at ≡ name
  low : name < 100000

delays_fit : (a b c : ℕ) → a < 1000 → b < 1000 → c < 1000 → All (λ d. d < 4294967296) (a ∷ b ∷ c ∷ [])
delays_fit a b c da db dc =
    All-cons (λ d. d < 4294967296) a (b ∷ c ∷ []) (omega (arith, da))
    (All-cons (λ d. d < 4294967296) b (c ∷ []) (omega (arith, db))
    (All-cons (λ d. d < 4294967296) c [] (omega (arith, dc)) (All-nil (λ d. d < 4294967296))))

burst_fine : (at name bytes a b c burst : ℕ) (x : Fate) → IsAt at name → bytes < 65536 → a < 1000 → b < 1000 → c < 1000 → 1 ≤ burst →
    size (burst_words burst) ≤ 20 → IsFineFate x → IsFine (Packet at bytes (a ∷ b ∷ c ∷ []) burst x)
burst_fine at name bytes a b c burst x is small da db dc some words fine = record {
  fits = record {
    flow = is.inside;
    size = small;
    each_delay = delays_fit a b c da db dc;
    hops = is.hops;
    reach = subst (λ n. reached x n ≤ n) is.hops fine.reaches;
    some = some;
  };
  short =
      let named : length (decimal (slice_index (names_of generated_flows) at)) ≤ 5 =
      subst (λ n. length (decimal n) ≤ 5) (sym is.named) (short_number name is.low) in
      omega (
        arith,
        named,
        short_number bytes (omega (arith, small)),
        short_number a (omega (arith, da)),
        short_number b (omega (arith, db)),
        short_number c (omega (arith, dc)),
        size_append (burst_words burst) (fate_words x),
        words,
        fine.short,
      );
}

-- ---- all of them

each_flow : (P : ℕ → Type 0) → ((at f : ℕ) → at + 1 ≡ f → IsAt at f → P f) → All P flow_names
each_flow P one = of_each_flow P
    (one 0 1 refl (record { inside = omega arith; hops = refl; named = refl; low = omega arith }))
    (one 1 2 refl (record { inside = omega arith; hops = refl; named = refl; low = omega arith }))
    (one 2 3 refl (record { inside = omega arith; hops = refl; named = refl; low = omega arith }))
    (one 3 4 refl (record { inside = omega arith; hops = refl; named = refl; low = omega arith }))
    (one 4 5 refl (record { inside = omega arith; hops = refl; named = refl; low = omega arith }))
    (one 5 6 refl (record { inside = omega arith; hops = refl; named = refl; low = omega arith }))
    (one 6 7 refl (record { inside = omega arith; hops = refl; named = refl; low = omega arith }))
    (one 7 8 refl (record { inside = omega arith; hops = refl; named = refl; low = omega arith }))

round_burst_fine : (r at f : ℕ) → IsAt at f →
    IsFine (Packet at (size_of (burst_number r f)) (delay_of r f 1 ∷ delay_of r f 2 ∷ delay_of r f 3 ∷ []) 20 (fate_of (burst_number r f)))
unfolding digits
round_burst_fine r at f is =
    burst_fine at f (size_of (burst_number r f)) (delay_of r f 1) (delay_of r f 2) (delay_of r f 3) 20 (fate_of (burst_number r f)) is
    (omega arith) (omega arith) (omega arith) (omega arith) (omega arith) (omega arith) (fate_fine (burst_number r f))

position : (at f : ℕ) → at + 1 ≡ f → f - 1 ≡ at
position at f is = omega (arith, is)

round_bursts_fine : (r : ℕ) → All IsFine (map (generated_burst r) flow_names)
round_bursts_fine r = All-map IsFine (generated_burst r) flow_names (each_flow (λ f. IsFine (generated_burst r f)) one)
  where
    one : (at f : ℕ) → at + 1 ≡ f → IsAt at f → IsFine (generated_burst r f)
    one at f next is =
        subst (λ k. IsFine (Packet k (size_of (burst_number r f)) (delay_of r f 1 ∷ delay_of r f 2 ∷ delay_of r f 3 ∷ []) 20 (fate_of (burst_number r f))))
        (sym (position at f next)) (round_burst_fine r at f is)

last_burst_fine : (at f : ℕ) → IsAt at f → IsFine (Packet at 64 (1 ∷ 1 ∷ 1 ∷ []) 32 fates.Straight)
unfolding digits
last_burst_fine at f is =
    burst_fine at f 64 1 1 1 32 fates.Straight is (omega arith) (omega arith) (omega arith) (omega arith) (omega arith) (omega arith)
    (record { reaches = omega arith; short = omega arith })

last_bursts_fine : All IsFine (map last_burst flow_names)
last_bursts_fine = All-map IsFine last_burst flow_names (each_flow (λ f. IsFine (last_burst f)) one)
  where
    one : (at f : ℕ) → at + 1 ≡ f → IsAt at f → IsFine (last_burst f)
    one at f next is =
        subst (λ k. IsFine (Packet k 64 (1 ∷ 1 ∷ 1 ∷ []) 32 fates.Straight)) (sym (position at f next)) (last_burst_fine at f is)

end_fine : (b : Bool) → All IsFine (if b then EndAll ∷ [] else [])
end_fine true = All-cons IsFine EndAll [] (record { fits = tt; short = omega arith }) (All-nil IsFine)
end_fine false = All-nil IsFine

round_fine : (n r : ℕ) → All IsFine (generated_round n r)
round_fine n r = All-append IsFine (map (generated_burst r) flow_names) (generated_end n r) (round_bursts_fine r) (end_fine (r % 10 == 9 || r + 1 == n))

pub steps_fine : (n : ℕ) → All IsFine (generated_steps n)
steps_fine n =
    let rounds = of_all_pieces IsFine (generated_round n) (range_with_len 0 n) (round_fine n) in
    All-append IsFine (generated_rounds n) (map last_burst flow_names) rounds last_bursts_fine
