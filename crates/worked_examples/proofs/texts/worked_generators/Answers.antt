use Rattle.std.proofs.Common.{refl}
use Rattle.worked_examples.proofs.texts.worked_generators.Goals as goal

pub returns : goal.returns
returns c = record {
  shape = refl;
  fates = refl;
  sizes = refl;
  delays = refl;
  burst = refl;
  ends = refl;
  one_end = refl;
  steps = refl;
  packets = refl;
}
