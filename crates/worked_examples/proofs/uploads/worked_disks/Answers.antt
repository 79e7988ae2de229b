use Rattle.std.proofs.Common.{arith}
use Rattle.worked_examples.proofs.Images.{cut_alone, torn, not_next, not_outside, one_synced, other_bytes, torn_in_range}
use Rattle.std.proofs.Common.{refl}
use Rattle.worked_examples.proofs.uploads.worked_disks.Goals as goal

pub returns : goal.returns
returns c = record {
  over = refl;
  past = refl;
  after = refl;
  no_hole = refl;
  synced = refl;
  cut_alone = cut_alone;
  torn = torn;
  not_shorter = λ h. omega (arith, h.no_shorter);
  not_longer = λ h. omega (arith, h.no_longer);
  not_outside = not_outside;
  not_next = not_next;
  one_synced = one_synced;
  torn_shorter = λ h. omega (arith, h.no_shorter);
  torn_longer = λ h. omega (arith, h.no_longer);
  torn_in_range = torn_in_range;
  too_short = λ h. omega (arith, h.no_shorter);
  other_bytes = other_bytes;
}
