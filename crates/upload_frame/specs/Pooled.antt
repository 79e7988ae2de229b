-- Packed columns of a pool, by their places in it.
use Rattle.std.specs.Prelude.{ℕ, List, [], map, slice_index_or}
use Rattle.sketchlet_wire.specs.declared.packed.Packed.{Packed}
use Rattle.sketchlet_wire.specs.Packing.{packed_bytes}

-- The item of a place past the end.
abbrev pub no_item : Packed
no_item = record { len = 0; bytes = [] }

abbrev pub item_at : List Packed → ℕ → Packed
item_at pool k = slice_index_or pool k no_item

-- The items at these places, in their order.
abbrev pub items_at : List Packed → List ℕ → List Packed
items_at pool places = map (item_at pool) places

-- The bytes that count of the item at a place.
abbrev pub bytes_at : List Packed → ℕ → List ℕ
bytes_at pool k = packed_bytes (item_at pool k)
