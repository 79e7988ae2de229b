-- What is held for packets that come late.
use Rattle.std.specs.Prelude.{◌≡◌, ℕ, ◌<◌, List}
use Rattle.lg_model.specs.Matching.{Matched}
use Rattle.lg_model.specs.Columns.{Column}
use Rattle.path_sim.specs.declared.inbox.Held.{Held}

-- What is held is to be that delivery: for that host, and its cargo stands for that column.
abbrev pub IsHeld : {C : Type 0} → (C → Column → Type 0) → Held C → ℕ × Column → Type 0
IsHeld stands h d = (h.host_at ≡ d.0) × stands h.cargo d.1

-- What is held is to be these deliveries, in that order.
abbrev pub AreHeld : {C : Type 0} → (C → Column → Type 0) → List (ℕ × Column) → List (Held C) → Type 0
AreHeld stands ds hs = Matched (IsHeld stands) hs ds

-- It is held for one of that many hosts.
abbrev pub IsInside : {C : Type 0} → ℕ → Held C → Type 0
IsInside hosts h = h.host_at < hosts
