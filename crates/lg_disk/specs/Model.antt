-- The disk model: what a read gives after a list of calls, and what a crash then may leave.
use Rattle.std.specs.Prelude.{◌≡◌, ℕ, ◌+◌, ◌<◌, ◌≤◌, min, max, List, [], ◌∷◌, ◌++◌, length, take, get_or, Any, if◌then◌else◌, nat_le}
use Rattle.lg_disk.specs.Disk.{with_bytes}
use Rattle.lg_disk.specs.declared.call.Call.{Call}
use Rattle.lg_disk.specs.declared.call.Call.TheVariants.{Nothing, Write, Cut, Sync}

-- What a read gives; what it gave at the last sync that succeeded; and since that sync the ranges written (where they
-- start and how long they are), and the least and the greatest length of the file.
pub record State : Type 0 where
  pub seen : List ℕ
  pub synced : List ℕ
  pub written : List (ℕ × ℕ)
  pub least : ℕ
  pub greatest : ℕ

-- all of the file synced
abbrev pub start : List ℕ → State
start file = record { seen = file; synced = file; written = []; least = length file; greatest = length file }

-- after a write at a place up to the end
abbrev pub wrote : State → ℕ → List ℕ → State
wrote s at bytes = record s {
  seen = with_bytes s.seen at bytes;
  written = s.written ++ (at, length bytes) ∷ [];
  greatest = max s.greatest (at + length bytes);
}

-- After a call. A write past the end changes nothing.
abbrev pub step : State → Call → State
step s Nothing = s
step s (Write at bytes) = if nat_le at (length s.seen) then wrote s at bytes else s
step s (Cut len) = record s { seen = take len s.seen; least = min s.least len }
step s Sync = start s.seen

-- after a list of calls, the first of them first
abbrev pub run : State → List Call → State
run s [] = s
run s (call ∷ calls) = run (step s call) calls

-- The byte at i is in one of the ranges.
abbrev pub IsWritten : List (ℕ × ℕ) → ℕ → Type 0
IsWritten ranges i = Any (λ (r : ℕ × ℕ). (r.0 ≤ i) × (i < r.0 + r.1)) ranges

-- A crash may leave any bytes in the ranges written and past the length at the last sync, and any length from the least
-- to the greatest. The bytes outside stay.
pub record IsImage (s : State) (c : List ℕ) : Type 0 where
  pub no_shorter : s.least ≤ length c
  pub no_longer : length c ≤ s.greatest
  pub outside : (i : ℕ) → i < length c → i < length s.synced → (IsWritten s.written i → ⊥)
      → get_or c i 0 ≡ get_or s.synced i 0
