-- The 12 bytes of a shape of sketches: rows in 1 byte, width in 2, the kind of the hash in 1 and its seed in 8. The kind
-- is 0 for places by ports, whose seed is 0, and 1 for places by a seed.
use Rattle.std.specs.Prelude.{ℕ, ◌<◌, ◌^◌, Bool, not, ◌||◌, ◌&&◌, ◌==◌, nat_lt, List, ◌∷◌, ◌++◌, Result, Ok, Err, if◌then◌else◌}
use Rattle.std.specs.Int.{w16, w64, to_be_bytes}
use Rattle.byte_fields.specs.Reading.{◌>>=◌, byte_at, number_at}
use Rattle.lg_model.specs.declared.limits.TheConstants.{MOST_ROWS, MOST_WIDTH}
use Rattle.lg_model.specs.declared.scenario.Hash.{Hash}
use Rattle.lg_model.specs.declared.scenario.Hash.TheVariants.{Ports, Seed}
use Rattle.lg_model.specs.Columns.{dims_of}
use Rattle.lg_model.specs.Placing.{Shape, IsShape}
use Rattle.sketchlet_wire.specs.Spelling.{dims_bytes}

-- A seed has 8 bytes.
abbrev pub FitsHash : Hash → Type 0
FitsHash Ports = Unit {0}
FitsHash (Seed n) = n < 2 ^ 64

-- The shapes that these bytes can tell.
pub record FitsShape (shape : Shape) : Type 0 where
  pub dims : IsShape shape.rows shape.width
  pub hash : FitsHash shape.hash

abbrev pub hash_bytes : Hash → List ℕ
hash_bytes Ports = 0 ∷ to_be_bytes w64 0
hash_bytes (Seed n) = 1 ∷ to_be_bytes w64 n

unfoldable pub shape_bytes : Shape → List ℕ
shape_bytes shape = dims_bytes (dims_of shape) ++ hash_bytes shape.hash

-- The hash of that kind and seed.
abbrev pub hash_of : (kind seed : ℕ) → Hash
hash_of kind seed = if kind == 0 then Ports else Seed seed

-- No hash has this kind and this seed.
abbrev pub is_bad_hash : (kind seed : ℕ) → Bool
is_bad_hash kind seed = nat_lt 1 kind || (kind == 0 && not (seed == 0))

-- Rows and width outside their ranges.
abbrev pub are_bad_dims : (rows width : ℕ) → Bool
are_bad_dims rows width = nat_lt rows 1 || (nat_lt MOST_ROWS rows || (nat_lt width 1 || nat_lt MOST_WIDTH width))

-- Kind and seed of a hash, and the bytes after them; `bad` where no hash has them.
unfoldable pub hash_at : {E : Type 0} → (missing bad : E) → List ℕ → Result (Hash × List ℕ) E
hash_at missing bad bytes = do
  kind ← byte_at missing bytes
  seed ← number_at missing w64 kind.1
  if is_bad_hash kind.0 seed.0 then Err bad else Ok (hash_of kind.0 seed.0, seed.1)

abbrev pub shape_of_parts : (rows width : ℕ) → Hash → Shape
shape_of_parts rows width hash = record { rows = rows; width = width; hash = hash }

-- A shape, and the bytes after it: `missing` where its 12 bytes are not all there, `bad` where no shape has them.
unfoldable pub shape_at : {E : Type 0} → (missing bad : E) → List ℕ → Result (Shape × List ℕ) E
shape_at missing bad bytes = do
  rows ← byte_at missing bytes
  width ← number_at missing w16 rows.1
  hash ← hash_at missing bad width.1
  if are_bad_dims rows.0 width.0 then Err bad else Ok (shape_of_parts rows.0 width.0 hash.0, hash.1)
