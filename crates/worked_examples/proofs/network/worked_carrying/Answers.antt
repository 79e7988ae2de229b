use Rattle.std.proofs.Common.{arith}
use Rattle.worked_examples.proofs.Allowed.{some, none, other_epoch, too_early, other_hop, past_width, missing}
use Rattle.std.proofs.Common.{refl}
use Rattle.worked_examples.proofs.network.worked_carrying.Goals as goal

pub returns : goal.returns
returns c = record {
  some = some;
  none = none;
  two_at_once = λ h. omega (arith, h.rising 0 (omega arith));
  backwards = λ h. omega (arith, h.rising 0 (omega arith));
  other_epoch = other_epoch;
  too_early = too_early;
  other_hop = other_hop;
  past_width = past_width;
  missing = missing;
  frozen = record { switch_at = 1; switch = record { declared = omega arith; named = refl }; ended = omega arith; index = omega arith; same = refl };
  by_position = λ h. omega (arith, h.named);
  not_ended = λ h. omega (arith, h.ended);
  other_index = λ h. omega (arith, h.index);
}
