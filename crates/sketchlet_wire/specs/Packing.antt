-- A spelling in an array of 62 bytes.
use Rattle.std.specs.Prelude.{◌≡◌, ℕ, ◌≤◌, List, take}
use Rattle.lg_model.specs.declared.limits.TheConstants.{MOST_SKETCHLET_BYTES}
use Rattle.lg_model.specs.Columns.{Column}
use Rattle.sketchlet_wire.specs.declared.packed.Packed.{Packed}
use Rattle.sketchlet_wire.specs.Spelling.{IsColumn, spelling}

-- The bytes that count: the first `len` of the array.
abbrev pub packed_bytes : Packed → List ℕ
packed_bytes p = take p.len p.bytes

-- These are the spelling of that column.
pub record IsPacked (p : Packed) (c : Column) : Type 0 where
  pub column : IsColumn c
  pub short : p.len ≤ MOST_SKETCHLET_BYTES
  pub bytes : packed_bytes p ≡ spelling c
