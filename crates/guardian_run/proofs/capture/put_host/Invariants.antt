use Rattle.std.specs.Prelude.{◌≡◌, ◌++◌, take}
use Rattle.lg_model.specs.Carrying.{picked}
use Rattle.lg_model.specs.Arriving.{brought}
use Rattle.guardian_run.specs.Outputs.{column_lines}
use Rattle.guardian_run.proofs.capture.put_host.Given as goal

abbrev pub invariant-loop-place : goal.invariant-loop-place
invariant-loop-place l =
    l.text.items ≡ l.fn.text.items ++ column_lines l.host.name (take l.place-index (brought l.scenario (picked l.scenario) l.host_at))
