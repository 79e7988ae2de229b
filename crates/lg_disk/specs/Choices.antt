-- Which image of a disk is meant.
use Rattle.std.specs.Prelude.{◌≡◌, ◌⊎◌, ◌<◌, ◌≤◌, ℕ, List, length, get_or}
use Rattle.lg_disk.specs.Model.{State, IsWritten}
use Rattle.lg_disk.specs.declared.choice.Choice.{Choice}
use Rattle.lg_disk.specs.declared.choice.Choice.TheVariants.{AsRead, AsSynced, FillLong, FillShort}

-- What stands at a place of a filled image: this byte where a crash may leave any, and else what the last sync left.
pub record IsFilledAt (s : State) (byte i found : ℕ) : Type 0 where
  pub free : IsWritten s.written i ⊎ (length s.synced ≤ i) → found ≡ byte
  pub kept : i < length s.synced → (IsWritten s.written i → ⊥) → found ≡ get_or s.synced i 0

-- so long, and filled at each place
pub record IsFilled (s : State) (len byte : ℕ) (c : List ℕ) : Type 0 where
  pub size : length c ≡ len
  pub places : (i : ℕ) → i < len → IsFilledAt s byte i (get_or c i 0)

abbrev pub IsChosen : Choice → State → List ℕ → Type 0
IsChosen AsRead s c = c ≡ s.seen
IsChosen AsSynced s c = c ≡ s.synced
IsChosen (FillLong byte) s c = IsFilled s s.greatest byte c
IsChosen (FillShort byte) s c = IsFilled s s.least byte c
