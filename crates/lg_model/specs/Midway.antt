-- How far a network has come in the middle of its steps, as the invariants of a run cite it.
use Rattle.std.specs.Prelude.{ℕ, ◌<◌, List, [], ◌++◌, map, take, drop, length, filter, slice_index_or}
use Rattle.std.specs.List.{flat_map, enumerate_from}
use Rattle.lg_model.specs.Scenario.{Scenario}
use Rattle.lg_model.specs.Trace.{Packet, packets, packets_until}
use Rattle.lg_model.specs.Matching.{Matched}
use Rattle.lg_model.specs.Columns.{Column}
use Rattle.lg_model.specs.Arriving.{is_late, arrives_of, arrivals_until, held, for_host}

-- What lies at the hosts after these deliveries, where `IsOf` says which thing stands for which column.
pub record AreDelivered {X : Type 0} (IsOf : X → Column → Type 0) (ds : List (ℕ × Column)) (hosts : List (List X)) : Type 0 where
  pub each : (h : ℕ) → h < length hosts → Matched IsOf (slice_index_or hosts h []) (for_host h ds)

-- The packets before the packet of number k, and those of them that the step at n sent, with their numbers.
abbrev pub packets_to : Scenario → ℕ → List Packet
packets_to w k = take k (packets w)

abbrev pub sent_by : Scenario → ℕ → ℕ → List (ℕ × Packet)
sent_by w n k = enumerate_from (length (packets_until w n)) (drop (length (packets_until w n)) (packets_to w k))

-- The numbers that arrived, and those that are held, within the step at n before its packet of number k.
abbrev pub arrived_to : Scenario → ℕ → ℕ → List ℕ
arrived_to w n k = arrivals_until w n ++ flat_map arrives_of (sent_by w n k)

abbrev pub held_to : Scenario → ℕ → ℕ → List ℕ
held_to w n k = held w n ++ map (λ (q : ℕ × Packet). q.0) (filter (λ (q : ℕ × Packet). is_late q.1.fate) (sent_by w n k))
