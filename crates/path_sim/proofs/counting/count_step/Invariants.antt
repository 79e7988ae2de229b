use Rattle.std.specs.Prelude.{◌≡◌, ◌++◌, List, take, length}
use Rattle.std.specs.List.{enumerate_from}
use Rattle.lg_model.specs.Trace.{packets_until, meetings_in}
use Rattle.lg_model.specs.Carrying as model
use Rattle.lg_model.specs.TwinsState.{AreTwins}
use Rattle.path_sim.specs.Sending.{packet_is}
use Rattle.path_sim.proofs.Bursts.{by_hops}
use Rattle.path_sim.proofs.counting.count_step.Given as goal

abbrev pub invariant-loop-k : goal.invariant-loop-k
invariant-loop-k l = record {
  long : length l.twins ≡ length l.fn.twins;
  counted : (cs : List model.Carry) →
      AreTwins l.scenario l.sent.step_at (meetings_in (packets_until l.scenario l.sent.step_at)) cs l.fn.twins →
      AreTwins l.scenario l.sent.step_at (meetings_in (packets_until l.scenario l.sent.step_at)
      ++ by_hops (packet_is l.sent) (length (packets_until l.scenario l.sent.step_at)) l.sent.burst (enumerate_from 0 (take l.k l.sent.flow.now.path)))
      cs l.twins;
}
