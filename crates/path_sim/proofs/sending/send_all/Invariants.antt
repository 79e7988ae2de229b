use Rattle.std.specs.Prelude.{◌+◌, List}
use Rattle.lg_model.specs.Trace.{Meeting}
use Rattle.path_sim.specs.Running.{IsRunAhead}
use Rattle.path_sim.proofs.sending.send_all.Given as goal

abbrev pub invariant-loop-b : goal.invariant-loop-b
invariant-loop-b g l = (start : _) (counted : List Meeting) →
    IsRunAhead g.P.Picker.picks g.O.Post l.scenario l.sent.step_at l.number counted start l.fn.pickers l.fn.traffic
    → IsRunAhead g.P.Picker.picks g.O.Post l.scenario l.sent.step_at (l.number + l.b) counted start l.pickers l.traffic
