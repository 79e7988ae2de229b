-- What the calls of a disk do to its file, and what a crash may leave.
use Rattle.std.specs.Prelude.{◌≡◌, ◌⊎◌, ℕ, ◌+◌, ◌≤◌, min, max, List, ◌++◌, length, take, drop}

-- the file with these bytes from that place on
abbrev pub with_bytes : List ℕ → ℕ → List ℕ → List ℕ
with_bytes file at bytes = take at file ++ bytes ++ drop (at + length bytes) file

-- new is old with these bytes from that place on
abbrev pub Holds : List ℕ → ℕ → List ℕ → List ℕ → Type 0
Holds old at bytes new = new ≡ with_bytes old at bytes

-- A call that writes nothing leaves the file.
abbrev pub Same : List ℕ → List ℕ → Type 0
Same old new = new ≡ old

-- After a write of n bytes that a crash cuts short: any bytes in the range and past the old end, the same elsewhere.
pub record Torn (at n : ℕ) (old new : List ℕ) : Type 0 where
  pub middle : List ℕ
  pub parts : new ≡ take at old ++ middle ++ drop (at + n) old
  pub no_shorter : length old ≤ length new
  pub no_longer : length new ≤ max (length old) (at + n)

-- After a cut to n bytes that a crash cuts short: some length between, and the same bytes.
pub record Shorter (n : ℕ) (old new : List ℕ) : Type 0 where
  pub no_shorter : min n (length old) ≤ length new
  pub front : new ≡ take (length new) old

-- A crash leaves this file and no other.
abbrev pub Only : List ℕ → (List ℕ → Type 0) → Type 0
Only file images = (c : List ℕ) → images c → c ≡ file

-- What a call of a disk does, whether it fails or not. Honesty is kept, both ways, and time goes on. A crash at a
-- moment of the call leaves a step of what a crash right before it might have left. A crash since an earlier moment
-- leaves what it might have left before the call, or what a crash since the start of the call might leave.
pub record Course {D : Type 0} (honest : D → Type 0) (images : D → List ℕ → Type 0) (moment : D → ℕ)
    (since : D → ℕ → List ℕ → Type 0) (step : List ℕ → List ℕ → Type 0) (old new : D) : Type 0 where
  pub still : honest old → honest new
  pub was : honest new → honest old
  pub later : moment old ≤ moment new
  pub during : honest old → (c : List ℕ) → since new (moment old) c → (b : List ℕ) × images old b × step b c
  pub before : honest old → (t : ℕ) (c : List ℕ) → t ≤ moment old → since new t c
      → since old t c ⊎ since new (moment old) c
