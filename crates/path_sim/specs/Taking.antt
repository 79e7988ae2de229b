-- A packet takes a column.
use Rattle.std.specs.Prelude.{◌≡◌, ◌<◌, ◌+◌, List, length, slice_index}
use Rattle.lg_model.specs.declared.limits.TheConstants.{MOST_PACKETS}
use Rattle.lg_model.specs.Scenario.{Scenario}
use Rattle.lg_model.specs.Carrying as model
use Rattle.lg_model.specs.Arriving.{column_of}
use Rattle.lg_model.specs.TwinsState.{TwinsState}
use Rattle.path_sim.specs.declared.carry.Carry.{Carry}
use Rattle.path_sim.specs.Parts.{carry_is, frozen_column}

-- After these entries of the carry list of a scenario a packet may take the column of the next entry: it is one of the
-- sketch that its switch, which has these twins, froze last.
pub record MayTake (w : Scenario) (cs : List model.Carry) (t : TwinsState) (c : Carry) : Type 0 where
  pub few : length cs < MOST_PACKETS
  pub switch : c.switch_at < length w.switches
  pub name : c.switch ≡ slice_index w.switches c.switch_at
  pub index : c.index < w.shape.width
  pub shape : t.shape ≡ w.shape
  pub epoch : t.epoch ≡ c.epoch + 1
  pub column : frozen_column t c.switch c.index ≡ column_of w (carry_is c)
