use Rattle.std.proofs.Common.{arith}
use Rattle.std.proofs.Common.{refl}
use Rattle.worked_examples.proofs.answers.worked_answers.Goals as goal

pub returns : goal.returns
returns c = record {
  rows = refl;
  told = refl;
  least_is_last = refl;
  too_low = λ h. omega (arith, h);
  high_bytes = λ h. omega (arith, h.bytes);
  high_delay = λ h. omega (arith, h.delay);
}
