-- What a crash may leave of the worked disk, and what not.
use Rattle.std.specs.Prelude.{◌≡◌, ℕ, zero, suc, ◌<◌, List, [], ◌∷◌, get_or}
use Rattle.std.proofs.Common.{ap, refl, arith}
use Rattle.lg_disk.specs.Disk.{Torn, Shorter}
use Rattle.lg_disk.specs.Model.{start, IsImage, IsWritten}
use Rattle.worked_examples.specs.Disks.{changed, first_changed}

abbrev two : List ℕ
two = 1 ∷ 2 ∷ []

abbrev three : List ℕ
three = 1 ∷ 2 ∷ 3 ∷ []

abbrev four : List ℕ
four = 1 ∷ 2 ∷ 77 ∷ 78 ∷ []

pub cut_alone : IsImage changed (1 ∷ 2 ∷ [])
cut_alone = record { no_shorter = omega arith; no_longer = omega arith; outside = same }
  where
    same : (i : ℕ) → i < 2 → i < 3 → (IsWritten changed.written i → ⊥) → get_or two i 0 ≡ get_or three i 0
    same zero a b not = refl
    same (suc zero) a b not = refl
    same (suc (suc i)) a b not = omega (arith, a)

pub torn : IsImage changed (1 ∷ 2 ∷ 77 ∷ 78 ∷ [])
torn = record { no_shorter = omega arith; no_longer = omega arith; outside = same }
  where
    same : (i : ℕ) → i < 4 → i < 3 → (IsWritten changed.written i → ⊥) → get_or four i 0 ≡ get_or three i 0
    same zero a b not = refl
    same (suc zero) a b not = refl
    same (suc (suc zero)) a b not = absurd (not (0, (2, 2), omega arith, refl, (omega arith, omega arith)))
    same (suc (suc (suc i))) a b not = omega (arith, b)

-- The ranges begin at the third byte.
second_kept : IsWritten changed.written 1 → ⊥
second_kept (zero, r, low, is, (from, to)) = let at : 2 ≡ r.0 = ap (λ (x : ℕ × ℕ). x.0) is in omega (arith, at, from)
second_kept (suc zero, r, low, is, (from, to)) = let at : 2 ≡ r.0 = ap (λ (x : ℕ × ℕ). x.0) is in omega (arith, at, from)
second_kept (suc (suc k), r, low, is, both) = omega (arith, low)

pub not_outside : IsImage changed (1 ∷ 5 ∷ 7 ∷ []) → ⊥
not_outside h = let n : 5 ≡ 2 = h.outside 1 (omega arith) (omega arith) second_kept in omega (arith, n)

-- The range is the first byte alone.
next_kept : IsWritten first_changed.written 1 → ⊥
next_kept (zero, r, low, is, (from, to)) =
    let at : 0 ≡ r.0 = ap (λ (x : ℕ × ℕ). x.0) is in
    let len : 1 ≡ r.1 = ap (λ (x : ℕ × ℕ). x.1) is in omega (arith, at, len, to)
next_kept (suc k, r, low, is, both) = omega (arith, low)

pub not_next : IsImage first_changed (7 ∷ 5 ∷ 3 ∷ []) → ⊥
not_next h = let n : 5 ≡ 2 = h.outside 1 (omega arith) (omega arith) next_kept in omega (arith, n)

none_written : (i : ℕ) → IsWritten [] i → ⊥
none_written i (k, r, low, is, both) = omega (arith, low)

pub one_synced : IsImage (start (1 ∷ [])) (2 ∷ []) → ⊥
one_synced h = let n : 2 ≡ 1 = h.outside 0 (omega arith) (omega arith) (none_written 0) in omega (arith, n)

second : List ℕ → ℕ
second [] = 0
second (x ∷ []) = 0
second (x ∷ y ∷ ys) = y

pub other_bytes : Shorter 2 (1 ∷ 2 ∷ 3 ∷ []) (1 ∷ 7 ∷ []) → ⊥
unfolding second
other_bytes h = let n : 7 ≡ 2 = ap second h.front in omega (arith, n)

pub torn_in_range : Torn 1 1 (1 ∷ 2 ∷ 3 ∷ []) (1 ∷ 7 ∷ 3 ∷ [])
torn_in_range = record { middle = 7 ∷ []; parts = refl; no_shorter = omega arith; no_longer = omega arith }
