use Rattle.std.specs.List.{IsDistinct}
use Rattle.std.proofs.Common.{arith, true≢false}
use Rattle.std.proofs.Common.{refl}
use Rattle.worked_examples.proofs.uploads.worked_applying.Goals as goal

pub returns : goal.returns
unfolding IsDistinct
returns c = record {
  stored = refl;
  content = refl;
  counts = refl;
  epochs = refl;
  new = refl;
  known = refl;
  room = refl;
  no_room = refl;
  conflict = refl;
  maximum_too = refl;
  size = refl;
  rows_too = refl;
  mask = refl;
  added = refl;
  becomes = refl;
  as_before = refl;
  refused = refl;
  later = refl;
  after_none = refl;
  no_room_at_all = λ h. omega (arith, h.some_room);
  too_much_room = λ h. omega (arith, h.few_room);
  past_room = λ h. omega (arith, h.few);
  key_twice = λ h. true≢false h.apart.0.0;
  of_none = λ h. omega (arith, h.counts.0.0);
}
