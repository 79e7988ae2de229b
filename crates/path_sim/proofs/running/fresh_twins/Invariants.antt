use Rattle.std.specs.Prelude.{◌≡◌, replicate}
use Rattle.lg_model.specs.TwinsState.{new_twins}
use Rattle.path_sim.proofs.running.fresh_twins.Given as goal

abbrev pub invariant-loop-switch : goal.invariant-loop-switch
invariant-loop-switch l = l.twins.items ≡ replicate l._switch-index (new_twins l.scenario.shape)
