-- The hosts, the switches, the flows and the asks of generated scenarios fit each other.
use Rattle.std.specs.Prelude.{◌≡◌, ◌≢◌, ◌==◌, ℕ, ◌+◌, ◌<◌, ◌%◌, true, [], ◌∷◌, length, All}
use Rattle.std.specs.List.{list_any, range_with_len}
use Rattle.std.proofs.Common.{refl, arith}
use Rattle.std.proofs.Math.Nat.{mod-lt}
use Rattle.std.proofs.lemmas.List.Elements.{All-nil, All-cons, All-map}
use Rattle.std.proofs.lemmas.List.FromFn.{get_or-range_with_len, length-range_with_len}
use Rattle.std.proofs.lemmas.List.Kept.{AllPairs-cons}
use Rattle.lg_model.specs.declared.scenario.HostLine.{HostLine}
use Rattle.lg_model.specs.declared.scenario.Letter.TheVariants as letters
use Rattle.lg_model.specs.Keeping.{IsFlow, IsAsk, names_of, host_names, AreApart, IsHost}
use Rattle.scenario_make.specs.Generator.{generated_hosts, generated_switches, flow_names, generated_flow, generated_flows, generated_ask, generated_asks}
use Rattle.scenario_make.proofs.Lists.{of_each_flow}

-- ---- names

-- Numbers in a row are apart.
pub row_apart : (a n : ℕ) → AreApart (range_with_len a n)
row_apart a n i j d less low same =
    let within : j < n = omega (arith, low, length-range_with_len a n) in
    omega (arith, get_or-range_with_len a n i d (omega (arith, less, within)), get_or-range_with_len a n j d within, same, less)

pub own_hosts : AreApart (host_names generated_hosts)
own_hosts = row_apart 1 2

pub own_switches : AreApart generated_switches
own_switches = row_apart 1 4

pub own_flows : AreApart (names_of generated_flows)
own_flows = row_apart 1 8

-- ---- hosts and switches

pub hosts_fit : All IsHost generated_hosts
hosts_fit =
    let one : HostLine = record { name = 1; letters = letters.Lose ∷ letters.LoseReply ∷ letters.Twice ∷ letters.Hold ∷ [] } in
    let two : HostLine = record { name = 2; letters = letters.Hold ∷ letters.Deliver ∷ letters.Lose ∷ letters.LoseReply ∷ [] } in
    All-cons IsHost one (two ∷ []) (record { name = omega arith; few_letters = omega arith })
    (All-cons IsHost two [] (record { name = omega arith; few_letters = omega arith }) (All-nil IsHost))

pub switches_fit : All (λ n. n < 65536) generated_switches
switches_fit =
    All-cons (λ n. n < 65536) 1 (2 ∷ 3 ∷ 4 ∷ []) (omega arith) (All-cons (λ n. n < 65536) 2 (3 ∷ 4 ∷ []) (omega arith)
    (All-cons (λ n. n < 65536) 3 (4 ∷ []) (omega arith) (All-cons (λ n. n < 65536) 4 [] (omega arith) (All-nil (λ n. n < 65536)))))

-- ---- flows

three : (P : ℕ → Type 0) (a b c : ℕ) → P a → P b → P c → All P (a ∷ b ∷ c ∷ [])
three P a b c pa pb pc = All-cons P a (b ∷ c ∷ []) pa (All-cons P b (c ∷ []) pb (All-cons P c [] pc (All-nil P)))

four : (P : ℕ → Type 0) (a b c d : ℕ) → P a → P b → P c → P d → All P (a ∷ b ∷ c ∷ d ∷ [])
four P a b c d pa pb pc pd = All-cons P a (b ∷ c ∷ d ∷ []) pa (three P b c d pb pc pd)

three_apart : (a b c : ℕ) → a ≢ b → a ≢ c → b ≢ c → AreApart (a ∷ b ∷ c ∷ [])
three_apart a b c ab ac bc =
    AllPairs-cons (λ m k. m ≢ k) a (b ∷ c ∷ []) (All-cons (λ k. a ≢ k) b (c ∷ []) ab (All-cons (λ k. a ≢ k) c [] ac (All-nil (λ k. a ≢ k))))
    (AllPairs-cons (λ m k. m ≢ k) b (c ∷ []) (All-cons (λ k. b ≢ k) c [] bc (All-nil (λ k. b ≢ k)))
    (AllPairs-cons (λ m k. m ≢ k) c [] (All-nil (λ k. c ≢ k)) none))
  where
    none : AreApart []
    none i j d less low same = omega (arith, low)

flow_fits : (f : ℕ) → f < 256 → IsFlow 2 4 (generated_flow f)
flow_fits f low = record {
  name = omega (arith, low);
  key = record {
    src = record { four = refl; bytes = four (λ n. n < 256) 10 0 0 f (omega arith) (omega arith) (omega arith) low };
    dst = record { four = refl; bytes = four (λ n. n < 256) 10 0 1 f (omega arith) (omega arith) (omega arith) low };
    proto = omega arith;
    sport = omega (arith, low);
    dport = omega arith;
  };
  host = mod-lt f (omega arith);
  path = three (λ s. s < 4) (f % 4) ((f + 1) % 4) ((f + 2) % 4) (mod-lt f (omega arith)) (mod-lt (f + 1) (omega arith)) (mod-lt (f + 2) (omega arith));
  some_hops = omega arith;
  few_hops = omega arith;
  once = three_apart (f % 4) ((f + 1) % 4) ((f + 2) % 4) (λ e. omega (arith, e)) (λ e. omega (arith, e)) (λ e. omega (arith, e));
}

pub flows_fit : All (IsFlow (length generated_hosts) (length generated_switches)) generated_flows
flows_fit = All-map (IsFlow 2 4) generated_flow flow_names (of_each_flow (λ f. IsFlow 2 4 (generated_flow f))
    (flow_fits 1 (omega arith)) (flow_fits 2 (omega arith)) (flow_fits 3 (omega arith)) (flow_fits 4 (omega arith))
    (flow_fits 5 (omega arith)) (flow_fits 6 (omega arith)) (flow_fits 7 (omega arith)) (flow_fits 8 (omega arith)))

-- ---- asks

ask_fits : (f : ℕ) → (generated_ask f).flow_at < length generated_flows → list_any (λ m. m == 1 + f % 4) generated_switches ≡ true
    → IsAsk generated_switches generated_flows (generated_ask f)
ask_fits f inside known = record { flow = inside; declared = known; switch = omega arith; epoch = omega arith }

pub asks_fit : All (IsAsk generated_switches generated_flows) generated_asks
asks_fit = All-map (IsAsk generated_switches generated_flows) generated_ask flow_names
    (of_each_flow (λ f. IsAsk generated_switches generated_flows (generated_ask f))
    (ask_fits 1 (omega arith) refl) (ask_fits 2 (omega arith) refl) (ask_fits 3 (omega arith) refl) (ask_fits 4 (omega arith) refl)
    (ask_fits 5 (omega arith) refl) (ask_fits 6 (omega arith) refl) (ask_fits 7 (omega arith) refl) (ask_fits 8 (omega arith) refl))
