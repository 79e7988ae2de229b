-- What a crash may leave during calls of a disk, one after the other.
use Rattle.std.specs.Prelude.{◌≡◌, ◌⊎◌, ℕ, ◌+◌, ◌≤◌, max, List, ◌∷◌, ◌++◌, length, take, drop}
use Rattle.lg_disk.specs.Disk.{Only}

-- An honest disk of which a crash now leaves what a read gives, and nothing else.
pub record IsSynced {D : Type 0} (honest : D → Type 0) (seen : D → List ℕ) (images : D → List ℕ → Type 0)
    (disk : D) : Type 0 where
  pub told : honest disk
  pub only : Only (seen disk) (images disk)

-- A crash at any moment since old leaves a file that has P. A crash since an earlier moment leaves such a one, or what
-- it might have left before.
pub record Leaves {D : Type 0} (moment : D → ℕ) (since : D → ℕ → List ℕ → Type 0) (P : List ℕ → Type 0)
    (old new : D) : Type 0 where
  pub later : moment old ≤ moment new
  pub each : (c : List ℕ) → since new (moment old) c → P c
  pub before : (t : ℕ) (c : List ℕ) → t ≤ moment old → since new t c → since old t c ⊎ P c

-- While bytes are written after a closed gate, and then the gate is opened: all up to the gate is as it was, and the
-- file is no longer than it will be; or all but the gate is as it will be.
abbrev pub Appending : List ℕ → ℕ → List ℕ → List ℕ → Type 0
Appending file gate bytes c =
    ((take (gate + 1) c ≡ take (gate + 1) file) × (length c ≤ max (length file) (gate + 1 + length bytes)))
    ⊎ ((x : ℕ) × (c ≡ take gate file ++ x ∷ bytes ++ drop (gate + 1 + length bytes) file))

-- From the one disk to the other, calls only read: a read gives the same bytes, and a crash at any moment leaves what
-- it might have left at the start.
pub record OnlyReads {D : Type 0} (honest : D → Type 0) (seen : D → List ℕ) (images : D → List ℕ → Type 0)
    (moment : D → ℕ) (since : D → ℕ → List ℕ → Type 0) (old new : D) : Type 0 where
  pub still : honest old → honest new
  pub was : honest new → honest old
  pub same : honest old → seen new ≡ seen old
  pub leaves : honest old → Leaves moment since (images old) old new
