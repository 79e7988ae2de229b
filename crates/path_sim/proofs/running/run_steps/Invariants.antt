use Rattle.std.specs.Prelude.{◌≡◌, length}
use Rattle.lg_model.specs.Trace.{packets_until}
use Rattle.path_sim.specs.Running.{IsRunTo}
use Rattle.path_sim.proofs.running.run_steps.Given as goal

abbrev pub invariant-loop-n : goal.invariant-loop-n
invariant-loop-n g l = record {
  number : l.number ≡ length (packets_until l.scenario l.n);
  run : (start : _) → IsRunTo g.P.Picker.picks g.O.Post l.scenario 0 0 start l.fn.pickers l.fn.traffic
      → IsRunTo g.P.Picker.picks g.O.Post l.scenario l.n l.number start l.pickers l.traffic;
}
