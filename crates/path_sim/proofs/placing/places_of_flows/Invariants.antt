use Rattle.std.specs.Prelude.{◌≡◌, map, take}
use Rattle.path_sim.specs.Parts.{places_in}
use Rattle.path_sim.proofs.placing.places_of_flows.Given as goal

abbrev pub invariant-loop-flow : goal.invariant-loop-flow
invariant-loop-flow l = l.all.items ≡ map (places_in l.scenario.shape) (take l.flow-index l.scenario.flows)
