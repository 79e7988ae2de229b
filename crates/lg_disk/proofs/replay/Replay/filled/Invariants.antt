use Rattle.std.proofs.Common.{◌≡◌, ◌<◌, ℕ, length, get_or}
use Rattle.lg_disk.specs.Choices.{IsFilledAt}
use Rattle.lg_disk.proofs.replay.Replay.filled.Given as goal

abbrev pub invariant-loop-i : goal.invariant-loop-i
invariant-loop-i l = (length l.bytes.items ≡ l.i) × ((k : ℕ) → k < l.i → IsFilledAt l.self l.byte k (get_or l.bytes.items k 0))
