-- In which order which columns come to the hosts.
use Rattle.std.specs.Prelude.{ℕ, ◌<◌, ◌≡◌, Bool, true, false, ◌==◌, ◌&&◌, List, [], ◌∷◌, ◌++◌, map, take, drop, length, reverse, filter, count_by, Option, None, Some, slice_index, slice_index_or, if◌then◌else◌}
use Rattle.std.specs.List.{flat_map, filter_map, enumerate_from, find, range_with_len}
use Rattle.std.specs.Option.{option_map}
use Rattle.lg_model.specs.declared.scenario.Step.{Step}
use Rattle.lg_model.specs.declared.scenario.Step.TheVariants as steps
use Rattle.lg_model.specs.declared.scenario.Fate.{Fate}
use Rattle.lg_model.specs.declared.scenario.Fate.TheVariants as fates
use Rattle.lg_model.specs.Scenario.{Scenario, no_flow}
use Rattle.lg_model.specs.Trace.{Packet, packets, packets_of, packets_until}
use Rattle.lg_model.specs.Columns.{Column, dims_of}
use Rattle.lg_model.specs.Sketch.{frozen_cells}
use Rattle.lg_model.specs.Carrying.{Carry}

abbrev pub is_release : Step → Bool
is_release (steps.Packet _ _ _ _ _) = false
is_release (steps.End _) = false
is_release steps.EndAll = false
is_release steps.Release = true

abbrev pub is_late : Fate → Bool
is_late fates.Straight = false
is_late (fates.Lost _) = false
is_late fates.Twice = false
is_late fates.Late = true

-- The number of a packet as often as it arrives at its place.
abbrev pub arrives : Fate → ℕ → List ℕ
arrives fates.Straight n = n ∷ []
arrives (fates.Lost _) n = []
arrives fates.Twice n = n ∷ n ∷ []
arrives fates.Late n = []

abbrev pub arrives_of : ℕ × Packet → List ℕ
arrives_of (k, p) = arrives p.fate k

-- How often the first n steps release.
abbrev pub released : Scenario → ℕ → ℕ
released w n = count_by is_release (take n w.steps)

-- Whether a packet is still held after n steps: none of them released since its own.
abbrev pub is_held : Scenario → ℕ → ℕ × Packet → Bool
is_held w n (k, p) = is_late p.fate && released w p.step_at == released w n

-- The numbers of the packets that are held after n steps, in the order in which they were sent.
abbrev pub held : Scenario → ℕ → List ℕ
held w n = map (λ (q : ℕ × Packet). q.0) (filter (is_held w n) (enumerate_from 0 (packets_until w n)))

-- The numbers that arrive in a step: its own packets, and at a release the held ones, the last one first.
abbrev pub arrivals_at : Scenario → ℕ × Step → List ℕ
arrivals_at w (n, step) =
    flat_map arrives_of (enumerate_from (length (packets_until w n)) (packets_of w.flows (n, step))) ++ (if is_release step then reverse (held w n) else [])

-- The numbers that arrive in the first n steps.
abbrev pub arrivals_until : Scenario → ℕ → List ℕ
arrivals_until w n = flat_map (arrivals_at w) (enumerate_from 0 (take n w.steps))

-- All numbers in the order in which they arrive. The end of the scenario releases what is still held.
abbrev pub arrivals : Scenario → List ℕ
arrivals w = flat_map (arrivals_at w) (enumerate_from 0 w.steps) ++ reverse (held w (length w.steps))

-- The frozen column that an entry of a carry list stands for, with the switch's name in its key.
abbrev pub column_of : Scenario → Carry → Column
column_of w c = record {
  key = record { switch = slice_index w.switches c.switch_at; epoch = c.epoch; index = c.index };
  dims = dims_of w.shape;
  cells = frozen_cells w c.switch_at c.epoch c.index;
}

-- The column that the packet of that number carries in the end.
abbrev pub cargo : Scenario → List Carry → ℕ → Option Column
cargo w cs n = option_map (column_of w) (find (λ (c : Carry). c.packet == n) cs)

-- The packet of a number.
abbrev pub no_packet : Packet
no_packet = record { step_at = 0; flow = no_flow; size = 0; delays = []; fate = fates.Straight }

abbrev pub packet_at : Scenario → ℕ → Packet
packet_at w n = slice_index_or (packets w) n no_packet

-- A delivery: the position of a host, and the column that a packet brings to it. A packet that carries none brings none.
abbrev pub brings : Scenario → List Carry → ℕ → Option (ℕ × Column)
brings w cs n = option_map (λ c. ((packet_at w n).flow.host_at, c)) (cargo w cs n)

-- The deliveries of packets of these numbers, in that order.
abbrev pub deliveries : Scenario → List Carry → List ℕ → List (ℕ × Column)
deliveries w cs ks = filter_map (brings w cs) ks

-- The columns among deliveries that are for the host at position h.
abbrev pub for_host : ℕ → List (ℕ × Column) → List Column
for_host h ds = map (λ (d : ℕ × Column). d.1) (filter (λ (d : ℕ × Column). d.0 == h) ds)

-- The brought columns: those that come to the host at position h, in order.
abbrev pub brought : Scenario → List Carry → ℕ → List Column
brought w cs h = for_host h (deliveries w cs (arrivals w))

-- Those of all hosts, host after host in the order of declaration.
abbrev pub brought_to_all : Scenario → List Carry → List Column
brought_to_all w cs = flat_map (brought w cs) (range_with_len 0 (length w.hosts))
