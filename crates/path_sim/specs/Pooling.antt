-- Columns that are kept once, and what came to the hosts as their positions.
use Rattle.std.specs.Prelude.{◌≡◌, ℕ, ◌+◌, ◌*◌, ◌<◌, ◌≤◌, List, [], length, map, slice_index_or, All}
use Rattle.lg_model.specs.declared.limits.TheConstants.{MOST_SKETCHLET_BYTES}
use Rattle.lg_model.specs.Scenario.{Scenario}
use Rattle.lg_model.specs.Columns.{Column}
use Rattle.lg_model.specs.Carrying as model
use Rattle.lg_model.specs.Arriving.{column_of}
use Rattle.lg_model.specs.TwinsState.{TwinsState}
use Rattle.sketchlet_wire.specs.declared.packed.Packed.{Packed}
use Rattle.sketchlet_wire.specs.Packing.{IsPacked}
use Rattle.path_sim.specs.declared.slot.Slot.{Slot}

-- The item of a position past the end.
abbrev pub no_item : Packed
no_item = record { len = 0; bytes = [] }

abbrev pub item_at : List Packed → ℕ → Packed
item_at pool k = slice_index_or pool k no_item

-- The items at these positions, in their order.
abbrev pub items_at : List Packed → List ℕ → List Packed
items_at pool places = map (item_at pool) places

-- The inboxes of these positions.
abbrev pub pooled : List Packed → List (List ℕ) → List (List Packed)
pooled pool inboxes = map (items_at pool) inboxes

-- A position stands for that column.
abbrev pub IsKept : List Packed → ℕ → Column → Type 0
IsKept pool k c = (k < length pool) × IsPacked (item_at pool k) c

-- The column at an index of the sketch that the switch at a position froze at the end of that epoch.
abbrev pub column_at : Scenario → (switch_at epoch index : ℕ) → Column
column_at w s e j = column_of w (record { packet = 0; hop = 0; switch_at = s; epoch = e; index = j })

abbrev pub no_slot : Slot
no_slot = record { ended = 0; place = 0 }

abbrev pub slot_at : List Slot → (width s j : ℕ) → Slot
slot_at slots width s j = slice_index_or slots (s * width + j) no_slot

-- A slot for each index of each switch: where the column is kept that was taken last, if one was.
pub record AreSlots (w : Scenario) (pool : List Packed) (slots : List Slot) : Type 0 where
  pub count : length slots ≡ length w.switches * w.shape.width
  pub each : (s j e : ℕ) → s < length w.switches → j < w.shape.width → (slot_at slots w.shape.width s j).ended ≡ e + 1
      → IsKept pool (slot_at slots w.shape.width s j).place (column_at w s e j)

-- Each position is one of the pool.
abbrev pub AreInside : List Packed → List (List ℕ) → Type 0
AreInside pool inboxes = All (All (λ (k : ℕ). k < length pool)) inboxes

-- What is kept after the entries of a carry list.
pub record IsPoolOf (w : Scenario) (cs : List model.Carry) (pool : List Packed) (slots : List Slot) (inboxes : List (List ℕ)) : Type 0 where
  pub few : length pool ≤ length cs
  pub short : All (λ (p : Packed). p.len ≤ MOST_SKETCHLET_BYTES) pool
  pub slots_are : AreSlots w pool slots
  pub inside : AreInside pool inboxes

-- What a run leaves: the columns, what came to each host as places among them, and the twins of each switch.
pub record PooledOutcome : Type 0 where
  pub kept : List Packed
  pub places : List (List ℕ)
  pub twins : List TwinsState
