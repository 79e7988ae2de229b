use Rattle.std.specs.Prelude.{◌≡◌, map, take}
use Rattle.column_pick.specs.Picks.{fresh}
use Rattle.path_sim.proofs.own.own_pickers.Given as goal

abbrev pub invariant-loop-switch : goal.invariant-loop-switch
invariant-loop-switch l = l.pickers.items ≡ map (fresh l.scenario.pick) (take l.switch-index l.scenario.switches)
