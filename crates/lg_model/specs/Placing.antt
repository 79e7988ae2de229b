-- Shapes of sketches, and the places of a flow in the rows of one.
use Rattle.std.specs.Prelude.{ℕ, ◌+◌, ◌*◌, ◌/◌, ◌%◌, ◌^◌, ◌≤◌, Bool, ◌&&◌, ◌==◌, List, map, fold}
use Rattle.std.specs.List.{range_with_len}
use Rattle.std.specs.Str.{bytes_eq}
use Rattle.flow_key.specs.declared.key.FlowKey.{FlowKey}
use Rattle.flow_key.specs.KeyText.{key_bytes}
use Rattle.lg_model.specs.declared.scenario.Hash.{Hash}
use Rattle.lg_model.specs.declared.scenario.Hash.TheVariants.{Ports, Seed}
use Rattle.lg_model.specs.declared.limits.TheConstants.{MOST_ROWS, MOST_WIDTH}

-- Whether two keys are one: their addresses, protocols and ports are the same.
abbrev pub same_key : FlowKey → FlowKey → Bool
same_key f g = bytes_eq f.src g.src && (bytes_eq f.dst g.dst && (f.proto == g.proto && (f.sport == g.sport && f.dport == g.dport)))

-- A shape of sketches: how many rows, how many buckets a row, and how the places of a flow are found.
pub record Shape : Type 0 where
  pub rows : ℕ
  pub width : ℕ
  pub hash : Hash

-- The ranges of a shape: 1 to 8 rows, and 1 to 4096 buckets a row.
pub record IsShape (rows width : ℕ) : Type 0 where
  pub some_rows : 1 ≤ rows
  pub few_rows : rows ≤ MOST_ROWS
  pub some_width : 1 ≤ width
  pub few_width : width ≤ MOST_WIDTH

-- The seeded hash after one byte of the key more.
abbrev pub mixed : ℕ → ℕ → ℕ
mixed h b = ((h + b) * 0x100000001B3) % 2 ^ 64

-- The hash of a key for row i, before it is cut to the width: by ports `sport + i * dport`; by a seed N the bytes of
-- the key mixed into N + (i + 1) * 0x9E3779B97F4A7C15, of which the upper half counts.
abbrev pub hashed : Hash → FlowKey → ℕ → ℕ
hashed Ports f i = f.sport + i * f.dport
hashed (Seed n) f i = fold mixed ((n + (i + 1) * 0x9E3779B97F4A7C15) % 2 ^ 64) (key_bytes f) / 2 ^ 32

-- The place of a flow in row i, below the width.
abbrev pub place : Shape → FlowKey → ℕ → ℕ
place shape f i = hashed shape.hash f i % shape.width

-- The places of a flow, row 0 first.
abbrev pub places_of : Shape → FlowKey → List ℕ
places_of shape f = map (place shape f) (range_with_len 0 shape.rows)
