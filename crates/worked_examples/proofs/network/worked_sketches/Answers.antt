use Rattle.std.proofs.Common.{refl}
use Rattle.worked_examples.proofs.network.worked_sketches.Goals as goal

pub returns : goal.returns
returns c = record {
  zeros = refl;
  least_so_far = refl;
  places = refl;
  limits = refl;
  past_limits = refl;
  all_of_them = refl;
  column = refl;
  bucket_there = refl;
  dims = refl;
  frozen_ones = refl;
  frozen_there = refl;
  current = refl;
  swapped = refl;
  offered = refl;
  anew = refl;
}
