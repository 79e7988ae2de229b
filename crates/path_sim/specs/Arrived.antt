-- What came to the hosts in the end.
use Rattle.std.specs.Prelude.{◌≡◌, ℕ, ◌<◌, ◌≤◌, ◌*◌, List, [], length, slice_index_or}
use Rattle.lg_model.specs.Scenario.{Scenario, packet_count}
use Rattle.lg_model.specs.Matching.{Matched}
use Rattle.lg_model.specs.Carrying as model
use Rattle.lg_model.specs.Arriving.{brought}
use Rattle.sketchlet_wire.specs.declared.packed.Packed.{Packed}
use Rattle.sketchlet_wire.specs.Packing.{IsPacked}

-- Each host has the spellings of the brought columns, in order of arrival, for that carry list: at most two for each
-- packet.
pub record HaveArrived (w : Scenario) (cs : List model.Carry) (inboxes : List (List Packed)) : Type 0 where
  pub hosts : length inboxes ≡ length w.hosts
  pub few : (h : ℕ) → h < length inboxes → length (slice_index_or inboxes h []) ≤ 2 * packet_count w.steps
  pub each : (h : ℕ) → h < length inboxes → Matched IsPacked (slice_index_or inboxes h []) (brought w cs h)
