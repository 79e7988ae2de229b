-- The generated scenario of one round, printed, by computation.
use Rattle.std.specs.Fmt.{digits}
use Rattle.std.proofs.Common.{refl}
use Rattle.scenario_make.specs.Worked.{WorkedRound}

pub worked : WorkedRound
unfolding digits
worked = refl
