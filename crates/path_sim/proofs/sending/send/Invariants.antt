use Rattle.std.specs.Prelude.{List}
use Rattle.lg_model.specs.Trace.{Meeting}
use Rattle.path_sim.specs.Running.{IsRun, IsRunAhead, at_hops}
use Rattle.path_sim.proofs.sending.send.Given as goal

abbrev pub invariant-loop-k : goal.invariant-loop-k
invariant-loop-k g l = (start : _) (counted : List Meeting) →
    IsRunAhead g.P.Picker.picks g.O.Post l.scenario l.sent.step_at l.number counted start l.fn.pickers l.fn.traffic
    → IsRun g.P.Picker.picks g.O.Post l.scenario (at_hops l.scenario l.sent.step_at l.number counted l.k) start l.pickers l.traffic l.cargo
