use Rattle.link_deliveries.specs.Deliveries.{brought_in_all}
use Rattle.std.proofs.Common.{arith}
use Rattle.worked_examples.proofs.Kept.{either_first, other_host, other_number, joined, one_lacks, acked_and_gone}
use Rattle.worked_examples.proofs.Kept.{kept_unacked, refused, no_later_one, found_gone, not_less, not_more, swapped}
use Rattle.worked_examples.specs.Arrivals.{twelve}
use Rattle.lg_model.specs.declared.scenario.Letter.TheVariants as letter
use Rattle.std.proofs.Common.{refl}
use Rattle.worked_examples.proofs.runs.worked_keeping.Goals as goal

pub returns : goal.returns
unfolding brought_in_all
returns c = record {
  either_first = either_first;
  other_host = other_host;
  other_number = other_number;
  joined = joined;
  one_lacks = one_lacks;
  not_overfull = λ h. omega (arith, h);
  acked_and_gone = acked_and_gone;
  kept_unacked = kept_unacked;
  reply_lost = λ h. h 1 letter.LoseReply (omega arith) refl;
  acks = refl;
  refused = refused;
  no_later_one = no_later_one;
  two_more = λ h. omega (arith, h.one_more);
  found_gone = found_gone;
  not_less = not_less;
  not_more = not_more;
  arrived = λ h. h 0 (omega arith) 2 twelve (omega arith) refl;
  swapped = swapped;
  not_whole = λ h. h.buckets 0 0 (omega arith) (omega arith);
}
