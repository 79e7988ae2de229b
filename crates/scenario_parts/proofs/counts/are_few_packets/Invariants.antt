use Rattle.std.proofs.Common.{◌≡◌, ◌≤◌, take}
use Rattle.lg_model.specs.Scenario.{packet_count}
use Rattle.scenario_parts.proofs.counts.are_few_packets.Given as goal

abbrev pub invariant-loop-step : goal.invariant-loop-step
invariant-loop-step l = record {
  counted : l.packets ≡ packet_count (take l.step-index l.steps);
  few : l.packets ≤ 1000000;
}
