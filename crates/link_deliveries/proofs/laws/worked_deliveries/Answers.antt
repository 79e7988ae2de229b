use Rattle.std.proofs.Common.{refl}
use Rattle.link_deliveries.proofs.laws.worked_deliveries.Goals as goal

pub returns : goal.returns
returns c = record {
  one_of_each = refl;
  no_letters = refl;
  nothing_sent = refl;
  held_past_a_loss = refl;
  held_in_order = refl;
  window_closes = refl;
  window_of_held = refl;
  outstanding_waits = refl;
  full_at_start = refl;
}
