use Rattle.std.proofs.Common.{refl}
use Rattle.worked_examples.proofs.network.worked_packets.Goals as goal

pub returns : goal.returns
returns c = record {
  count = refl;
  sizes = refl;
  steps = refl;
  names = refl;
  reaches = refl;
  met = refl;
  ends = refl;
  other_ends = refl;
  epochs = refl;
  first_saw = refl;
  second_saw = refl;
  sums = refl;
  maxima = refl;
}
