-- Generated scenarios are scenarios.
use Rattle.std.specs.Prelude.{◌≡◌, ◌==◌, ◌||◌, ℕ, ◌+◌, ◌*◌, ◌≤◌, ◌%◌, Bool, true, false, [], ◌∷◌, length, map, sum_by, if◌then◌else◌}
use Rattle.std.specs.List.{range_with_len}
use Rattle.std.specs.Fmt.{digits}
use Rattle.std.proofs.Common.{refl, arith}
use Rattle.std.proofs.lemmas.Fmt.{length-decimal-le}
use Rattle.std.proofs.lemmas.List.{length-append}
use Rattle.std.proofs.lemmas.List.FromFn.{length-range_with_len}
use Rattle.std.proofs.lemmas.List.Sums.{sum_by-append, sum_by-le, count_by-le-length}
use Rattle.lg_model.specs.declared.scenario.Step.TheVariants.{EndAll}
use Rattle.lg_model.specs.Scenario.{burst_of, packet_count, is_end_of}
use Rattle.scenario_lines.specs.Spelling.{size, step_words, ask_words}
use Rattle.scenario_lines.specs.PrintedLen.{declared_size, frame_size}
use Rattle.scenario_lines.specs.declared.section.Section.TheVariants.{Done}
use Rattle.scenario_parts.specs.Printed.{text_of}
use Rattle.scenario_parts.proofs.LengthLemmas.{text_size}
use Rattle.scenario_make.specs.Generator.{generated, generated_shape, generated_hosts, generated_switches, generated_flows, generated_asks, flow_names}
use Rattle.scenario_make.specs.Generator.{generated_burst, generated_end, generated_round, last_burst, generated_rounds, generated_steps, IsGenerated}
use Rattle.scenario_make.proofs.Lists.{length_of_pieces, sum_of_pieces}
use Rattle.scenario_make.proofs.Declarations.{own_hosts, own_switches, own_flows, hosts_fit, switches_fit, flows_fit, asks_fit}
use Rattle.scenario_make.proofs.Bursts.{steps_fine}

-- ---- how many steps and packets

end_len : (b : Bool) → length (if b then EndAll ∷ [] else []) ≤ 1
end_len true = omega arith
end_len false = omega arith

round_len : (n r : ℕ) → length (generated_round n r) ≤ 9
round_len n r = omega (arith, length-append (map (generated_burst r) flow_names) (generated_end n r), end_len (r % 10 == 9 || r + 1 == n))

steps_len : (n : ℕ) → length (generated_steps n) ≤ n * 9 + 8
steps_len n =
    let rounds = length_of_pieces (generated_round n) 9 (range_with_len 0 n) (round_len n) in
    omega (arith, length-append (generated_rounds n) (map last_burst flow_names), rounds, length-range_with_len 0 n)

end_sends : (b : Bool) → sum_by burst_of (if b then EndAll ∷ [] else []) ≡ 0
end_sends true = refl
end_sends false = refl

round_sends : (n r : ℕ) → sum_by burst_of (generated_round n r) ≡ 160
round_sends n r =
    omega (arith, sum_by-append burst_of (map (generated_burst r) flow_names) (generated_end n r), end_sends (r % 10 == 9 || r + 1 == n))

packets : (n : ℕ) → packet_count (generated_steps n) ≡ 160 * n + 256
packets n =
    let rounds = sum_of_pieces burst_of (generated_round n) 160 (range_with_len 0 n) (round_sends n) in
    omega (arith, sum_by-append burst_of (generated_rounds n) (map last_burst flow_names), rounds, length-range_with_len 0 n)

-- ---- how long the text is

declared_len : declared_size generated_hosts generated_switches generated_flows ≡ 498
unfolding digits
declared_len = refl

asks_len : sum_by (λ q. size (ask_words generated_flows q)) generated_asks ≡ 80
unfolding digits
asks_len = refl

frame_len : (n : ℕ) → n ≤ 1000 → frame_size Done (generated_shape n) (generated 1).pick ≤ 100
unfolding digits
frame_len n low = omega (arith, length-decimal-le 4 n (omega arith) (omega (arith, low)) (omega (arith, low)))

pub text_len : (n : ℕ) → n ≤ 1000 → length (text_of (generated n)) ≤ 16777216
text_len n low =
    let one = sum_by-le (λ t. size (step_words generated_flows generated_switches t)) 1000 (generated_steps n) (λ k d lt. (steps_fine n k d lt).short) in
    omega (arith, text_size (generated n), frame_len n low, declared_len, asks_len, one, steps_len n, low)

-- ---- all of it

pub generated_is : (n : ℕ) → n ≤ 1000 → IsGenerated n
generated_is n low = record {
  whole = record {
    scenario = record {
      shape = record { some_rows = omega arith; few_rows = omega arith; some_width = omega arith; few_width = omega arith };
      hash = omega (arith, low);
      pick = tt;
      hosts = record { few = omega arith; each = hosts_fit; own = own_hosts };
      switches = record { few = omega arith; each = switches_fit; own = own_switches };
      flows = record { few = omega arith; each = flows_fit; own = own_flows };
      steps = record {
        each = λ k d lt. (steps_fine n k d lt).fits;
        few_packets = omega (arith, packets n, low);
        few_ends = λ s inside. omega (arith, count_by-le-length (is_end_of s) (generated_steps n), steps_len n, low);
      };
      asks = record { few = omega arith; each = asks_fit };
    };
    short = text_len n low;
  };
  packets = packets n;
}
