-- Columns in blocks of 16 neighbouring indexes.
use Rattle.std.specs.Prelude.{ℕ, ◌/◌, ◌%◌, ◌==◌, List, [], Option, None, Some, Box, IsSome, if◌then◌else◌, slice_index_or}
use Rattle.std.specs.Global.{Global}
use Rattle.std.specs.Int.{bit_at}
use Rattle.std.specs.Option.{option_map, option_and_then}
use Rattle.std.specs.Ordering.{nat_cmp, ordering_then}
use Rattle.std.specs.declared.cmp.Ordering.{Ordering}
use Rattle.std.specs.BTreeMap.{is_at}
use Rattle.std.specs.Map.{lookup}
use Rattle.lg_model.specs.declared.column.Bucket.{Bucket}
use Rattle.lg_model.specs.declared.column.Key.{Key}
use Rattle.column_book.specs.declared.block.Block.{Block}
use Rattle.column_book.specs.declared.block.Spot.{Spot}

-- The block of a key.
abbrev pub spot : Key → Spot
spot k = record { switch = k.switch; epoch = k.epoch; nth = k.index / 16 }

-- Spots are ordered by switch, then by epoch, then by number.
abbrev pub spot_cmp : Spot → Spot → Ordering
spot_cmp a b = ordering_then (nat_cmp a.switch b.switch) (ordering_then (nat_cmp a.epoch b.epoch) (nat_cmp a.nth b.nth))

-- The eight buckets at a place of a block, if its bit is set.
abbrev pub kept_in : Block → ℕ → Option (List Bucket)
kept_in b j = if bit_at b.mask j == 1 then Some (slice_index_or b.columns j []) else None

-- Blocks that were made, under their spots.
abbrev pub Made : Type 0
Made = List (Spot × Box Block Global)

-- A block was made there.
abbrev pub IsMade : Made → Spot → Type 0
IsMade es s = IsSome (lookup (is_at (spot_cmp s)) es)

-- The block there, if it was made.
abbrev pub block_at : Made → Spot → Option Block
block_at es s = option_map (λ (b : Box Block Global). b.value) (lookup (is_at (spot_cmp s)) es)

-- The eight buckets under a key, if they are there.
abbrev pub kept_at : Made → Key → Option (List Bucket)
kept_at es k = option_and_then (λ (b : Box Block Global). kept_in b.value (k.index % 16)) (lookup (is_at (spot_cmp (spot k))) es)
