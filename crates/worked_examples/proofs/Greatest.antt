-- The scenario at the limits is one.
use Rattle.std.specs.Prelude.{ℕ, ◌<◌, [], ◌∷◌, All, replicate}
use Rattle.std.specs.List.{range_with_len}
use Rattle.std.proofs.Common.{refl, arith}
use Rattle.std.proofs.lemmas.List.Elements.{All-from_recursion, All-map, All-replicate}
use Rattle.std.proofs.lemmas.List.FromFn.{get_or-range_with_len, length-range_with_len}
use Rattle.flow_key.specs.KeyText.{Fits}
use Rattle.lg_model.specs.Keeping.{IsScenario, IsHost, host_names, AreApart, IsFlow, names_of, IsStep, IsAsk}
use Rattle.scenario_make.proofs.Declarations.{row_apart}
use Rattle.worked_examples.specs.Networks.{host}
use Rattle.worked_examples.specs.Limits.{long, greatest}

path : All (λ s. s < 64) (range_with_len 48 16)
path = All-from_recursion (λ s. s < 64) (range_with_len 48 16) (
  omega arith,
  (
    omega arith,
    (
      omega arith,
      (
        omega arith,
        (
          omega arith,
          (
            omega arith,
            (
              omega arith,
              (
                omega arith,
                (omega arith, (omega arith, (omega arith, (omega arith, (omega arith, (omega arith, (omega arith, (omega arith, tt)))))))),
              ),
            ),
          ),
        ),
      ),
    ),
  ),
)

hosts_fit : All IsHost greatest.hosts
hosts_fit = All-map IsHost host (range_with_len 0 64) (λ k d lt.
    let is = get_or-range_with_len 0 64 k d (omega (arith, lt, length-range_with_len 0 64)) in
    record { name = omega (arith, is, lt, length-range_with_len 0 64); few_letters = omega arith })

own_hosts : AreApart (host_names greatest.hosts)
own_hosts = row_apart 0 64

switches_fit : All (λ n. n < 65536) greatest.switches
switches_fit k d lt = omega (arith, get_or-range_with_len 0 64 k d (omega (arith, lt, length-range_with_len 0 64)), lt, length-range_with_len 0 64)

one_flow : AreApart (names_of (long ∷ []))
one_flow i j d less lt = absurd (omega (arith, less, lt))

key : Fits long.key
key = record {
  src = record { four = refl; bytes = All-from_recursion (λ n. n < 256) long.key.src (omega arith, (omega arith, (omega arith, (omega arith, tt)))) };
  dst = record { four = refl; bytes = All-from_recursion (λ n. n < 256) long.key.dst (omega arith, (omega arith, (omega arith, (omega arith, tt)))) };
  proto = omega arith;
  sport = omega arith;
  dport = omega arith;
}

delays : All (λ d. d < 4294967296) (replicate 16 1)
delays = All-replicate (λ d. d < 4294967296) 16 1 (omega arith)

pub at_them : IsScenario greatest
at_them = record {
  shape = record { some_rows = omega arith; few_rows = omega arith; some_width = omega arith; few_width = omega arith };
  hash = tt;
  pick = tt;
  hosts = record { few = omega arith; each = hosts_fit; own = own_hosts };
  switches = record { few = omega arith; each = switches_fit; own = row_apart 0 64 };
  flows = record {
    few = omega arith;
    each = All-from_recursion (IsFlow 64 64) (long ∷ [])
        (record { name = omega arith; key = key; host = omega arith; path = path; some_hops = omega arith; few_hops = omega arith; once = row_apart 48 16 }, tt);
    own = one_flow;
  };
  steps = record {
    each = All-from_recursion (IsStep 64 (long ∷ [])) greatest.steps
        (record { flow = omega arith; size = omega arith; each_delay = delays; hops = refl; reach = omega arith; some = omega arith }, (tt, tt));
    few_packets = omega arith;
    few_ends = λ s low. omega arith;
  };
  asks = record {
    few = omega arith;
    each = All-from_recursion (IsAsk greatest.switches (long ∷ [])) greatest.asks
        (record { flow = omega arith; declared = refl; switch = omega arith; epoch = omega arith }, tt);
  };
}
