use Rattle.std.proofs.Common.{◌≡◌, ◌+◌, ◌≤◌, ◌<◌, ℕ, take, length}
use Rattle.std.specs.Prelude.{slice_index}
use Rattle.lg_model.specs.Keeping.{ends_of}
use Rattle.scenario_parts.proofs.counts.are_few_ends.Given as goal

abbrev pub invariant-loop-step : goal.invariant-loop-step
invariant-loop-step l = record {
  len : length l.ends ≡ 64;
  counted : (i : ℕ) → i < 64 → slice_index l.ends i + l.ends_of_all ≡ ends_of i (take l.step-index l.steps);
}

abbrev pub invariant-loop-at : goal.invariant-loop-at
invariant-loop-at l = (i : ℕ) → i < l.at → ends_of i l.steps ≤ 65535
