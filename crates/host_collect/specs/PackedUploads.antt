-- Uploads that are kept as places of packed columns in a pool, cut at some ends.
use Rattle.std.specs.Prelude.{ℕ, zero, suc, ◌+◌, ◌-◌, ◌<◌, ◌≤◌, List, [], ◌∷◌, length, map, take, drop, Result, Ok, Err, All}
use Rattle.std.specs.List.{AllByRecursion}
use Rattle.lg_model.specs.declared.limits.TheConstants.{MOST_SKETCHLET_BYTES, MOST_UPLOAD_COLUMNS}
use Rattle.lg_model.specs.Columns.{Column}
use Rattle.lg_model.specs.Matching.{Matched}
use Rattle.sketchlet_wire.specs.declared.fault.WireFault.{WireFault}
use Rattle.sketchlet_wire.specs.declared.packed.Packed.{Packed}
use Rattle.sketchlet_wire.specs.Packing.{IsPacked, packed_bytes}
use Rattle.sketchlet_wire.specs.Reading.{column_reading}
use Rattle.sketchlet_wire.specs.Uploads.{UploadData, IsFull, no_column}
use Rattle.upload_frame.specs.Pooled.{items_at}
use Rattle.host_collect.specs.Cutting.{Piece, numbered}

-- The column that was read, if one was.
abbrev pub column_or_none : Result (Column × ℕ) WireFault → Column
column_or_none (Ok x) = x.0
column_or_none (Err fault) = no_column

-- The column that an item packs.
abbrev pub column_in : Packed → Column
column_in p = column_or_none (column_reading (packed_bytes p))

-- The columns that the items at these places pack.
abbrev pub columns_at : List Packed → List ℕ → List Column
columns_at pool places = map column_in (items_at pool places)

-- The pieces of a list from a position on, by where each ends.
abbrev pub pieces : (from : ℕ) → (ends : List ℕ) → List Column → List Piece
pieces from [] cs = []
pieces from (e ∷ es) cs = take (e - from) (drop from cs) ∷ pieces e es cs

-- Where the piece of that number begins.
abbrev pub start_of : (from : ℕ) → (ends : List ℕ) → ℕ → ℕ
start_of from [] k = from
start_of from (e ∷ es) zero = from
start_of from (e ∷ es) (suc k) = start_of e es k

-- Where the last of them ends.
abbrev pub last_end : (from : ℕ) → (ends : List ℕ) → ℕ
last_end from [] = from
last_end from (e ∷ es) = last_end e es

-- The ends come one after the other, at most 16 apart, within a list of that length.
abbrev pub AreEnds : (from : ℕ) → (ends : List ℕ) → (len : ℕ) → Type 0
AreEnds from [] len = Unit {0}
AreEnds from (e ∷ es) len = (from ≤ e) × (e ≤ from + MOST_UPLOAD_COLUMNS) × (e ≤ len) × AreEnds e es len

-- The uploads of a host that end there.
abbrev pub uploads_at : (host : ℕ) → List Packed → (places ends : List ℕ) → List UploadData
uploads_at host pool places ends = numbered host (pieces 0 ends (columns_at pool places))

-- Each place is one of the pool, whose items are of at most 62 bytes, and packs a column.
pub record PackColumns (pool : List Packed) (places : List ℕ) : Type 0 where
  pub inside : All (λ k. k < length pool) places
  pub short : All (λ p. p.len ≤ MOST_SKETCHLET_BYTES) pool
  pub packed : Matched IsPacked (items_at pool places) (columns_at pool places)

-- What is kept of a host's uploads.
pub record KeepUploads (host : ℕ) (pool : List Packed) (places ends : List ℕ) : Type 0 where
  pub columns : PackColumns pool places
  pub within : AreEnds 0 ends (length places)
  pub full : AllByRecursion IsFull (uploads_at host pool places ends)
