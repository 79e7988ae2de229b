use Rattle.std.proofs.Common.{refl}
use Rattle.lg_model.proofs.laws.worked_scenarios.Goals as goal

pub returns : goal.returns
returns c = record {
  one_packet_carries = refl;
  nothing_carries = refl;
  one_column_of_two = refl;
  least_row_counts = refl;
  known_zero = refl;
  delay_below_last = refl;
  delay_at_last = refl;
  delay_past_last = refl;
  two_switches = refl;
  lost_behind_first = refl;
  held_packets_arrive = refl;
  twice_and_late = refl;
}
