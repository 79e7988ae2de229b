use Rattle.std.proofs.Common.{◌≡◌, ◌<◌, ℕ, false}
use Rattle.sketchlet_wire.specs.Uploads.{is_twice}
use Rattle.sketchlet_wire.proofs.upload.first_twice.Given as goal

abbrev pub invariant-loop-n : goal.invariant-loop-n
invariant-loop-n l = (k : ℕ) → k < l.n → is_twice l.columns k ≡ false
