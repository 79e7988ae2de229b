-- Keys of a content in their order.
use Rattle.std.specs.Prelude.{◌≡◌, ℕ, ◌+◌, ◌*◌, ◌%◌, ◌==◌, ◌&&◌, Bool, true, false, if◌then◌else◌, Option, None, Some, IsSome}
use Rattle.std.specs.Ordering.{is_lt}
use Rattle.lg_model.specs.declared.column.Key.{Key}
use Rattle.column_book.specs.declared.block.Spot.{Spot}
use Rattle.column_book.specs.Blocks.{spot}
use Rattle.lg_model.specs.Answer.{key_cmp}

-- Whether a key comes after the given one, if one is given.
abbrev pub comes_after : Option Key → Key → Bool
comes_after None q = true
comes_after (Some a) q = is_lt (key_cmp a q)

-- A kept key that comes after the given one, where none that does is less.
pub record IsLeastAfter {A : Type 0} (look : Key → Option A) (given : Option Key) (k : Key) : Type 0 where
  pub there : IsSome (look k)
  pub later : comes_after given k ≡ true
  pub least : (q : Key) → IsSome (look q) → comes_after given q ≡ true → is_lt (key_cmp q k) ≡ false

-- The least kept key after the given one, or none where there is no such key.
abbrev pub IsNext : {A : Type 0} → (Key → Option A) → Option Key → Option Key → Type 0
IsNext look given None = (q : Key) → IsSome (look q) → comes_after given q ≡ true → ⊥
IsNext look given (Some k) = IsLeastAfter look given k

-- Whether two spots are one.
abbrev pub same_spot : Spot → Spot → Bool
same_spot a b = a.switch == b.switch && (a.epoch == b.epoch && a.nth == b.nth)

-- The block in which a walk begins.
abbrev pub first_spot : Option Key → Spot
first_spot None = record { switch = 0; epoch = 0; nth = 0 }
first_spot (Some a) = spot a

-- The first place of a block that comes after the given key: in the key's own block the next one.
abbrev pub place_from : Option Key → Spot → ℕ
place_from None s = 0
place_from (Some a) s = if same_spot s (spot a) then a.index % 16 + 1 else 0

-- The key of a place in a block.
abbrev pub key_in : Spot → ℕ → Key
key_in s place = record { switch = s.switch; epoch = s.epoch; index = s.nth * 16 + place }
