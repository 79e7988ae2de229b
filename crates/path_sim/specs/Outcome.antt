-- What a run of the network leaves.
use Rattle.std.specs.Prelude.{List}
use Rattle.lg_model.specs.TwinsState.{TwinsState}
use Rattle.sketchlet_wire.specs.declared.packed.Packed.{Packed}
use Rattle.path_sim.specs.declared.carry.Carry.{Carry}

-- The packed columns of each host in order of arrival, the carry list, and the twins of each switch.
pub record Outcome : Type 0 where
  pub inboxes : List (List Packed)
  pub carried : List Carry
  pub twins : List TwinsState
