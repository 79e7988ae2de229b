use Rattle.std.proofs.Common.{◌≡◌, take}
use Rattle.std.specs.Prelude.{fold}
use Rattle.lg_model.specs.Placing.{mixed}
use Rattle.row_hash.proofs.hashing.mix.Given as goal

abbrev pub invariant-loop-b : goal.invariant-loop-b
invariant-loop-b l = l.h ≡ fold mixed l.initial.h (take l.b-index l.bytes)
