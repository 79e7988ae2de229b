use Rattle.std.proofs.Common.{arith}
use Rattle.std.proofs.Common.{refl}
use Rattle.worked_examples.proofs.uploads.worked_worlds.Goals as goal

pub returns : goal.returns
returns c = record {
  stored = refl;
  known = refl;
  given_up = refl;
  crashed = refl;
  crash = refl;
  nothing_there = refl;
  nothing_idle = refl;
  counts = refl;
  rose = omega arith;
  at_last = omega arith;
  not_risen = λ h. omega (arith, h);
}
