use Rattle.std.specs.Prelude.{◌≡◌, ◌≤◌, ◌*◌, take, length}
use Rattle.std.specs.List.{flat_map, enumerate_from, range_with_len}
use Rattle.lg_model.specs.Carrying.{picked}
use Rattle.lg_model.specs.Arriving.{brought}
use Rattle.guardian_run.specs.Outputs.{host_lines}
use Rattle.guardian_run.proofs.capture.capture_lines.Given as goal

abbrev pub invariant-loop-at : goal.invariant-loop-at
invariant-loop-at l = record {
  text : l.text.items ≡ flat_map (host_lines l.scenario) (enumerate_from 0 (take l.at l.scenario.hosts));
  count : l.count ≡ length (flat_map (brought l.scenario (picked l.scenario)) (range_with_len 0 l.at));
  few : l.count ≤ l.at * 4294967296;
}
