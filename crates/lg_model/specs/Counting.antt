-- How many columns come to a host.
use Rattle.std.specs.Prelude.{ℕ, ◌*◌, ◌≤◌, List, length}
use Rattle.lg_model.specs.Scenario.{Scenario, packet_count}
use Rattle.lg_model.specs.Carrying.{Carry}
use Rattle.lg_model.specs.Arriving.{brought}

-- At most two for each packet, since a packet arrives twice at most and brings one column each time.
abbrev pub LawOfTheArrivals : Type 0
LawOfTheArrivals = (w : Scenario) (cs : List Carry) (h : ℕ) → length (brought w cs h) ≤ 2 * packet_count w.steps
