-- What came to the hosts of a scenario, each column kept once.
use Rattle.std.specs.Prelude.{◌≤◌, All}
use Rattle.lg_model.specs.declared.limits.TheConstants.{MOST_SKETCHLET_BYTES}
use Rattle.lg_model.specs.Scenario.{Scenario}
use Rattle.lg_model.specs.Carrying.{picked}
use Rattle.sketchlet_wire.specs.declared.packed.Packed.{Packed}
use Rattle.path_sim.specs.Arrived.{HaveArrived}
use Rattle.path_sim.specs.Pooling.{AreInside, PooledOutcome, pooled}

-- The items at the places of each host are the columns that came to it.
pub record HavePooled (w : Scenario) (a : PooledOutcome) : Type 0 where
  pub arrived : HaveArrived w (picked w) (pooled a.kept a.places)
  pub inside : AreInside a.kept a.places
  pub short : All (λ (p : Packed). p.len ≤ MOST_SKETCHLET_BYTES) a.kept
