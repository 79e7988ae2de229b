use Rattle.link_deliveries.specs.Deliveries.{brought_in_all}
use Rattle.std.proofs.Common.{refl}
use Rattle.worked_examples.proofs.uploads.worked_links.Goals as goal

pub returns : goal.returns
unfolding brought_in_all
returns c = record {
  next = refl;
  sent_one = refl;
  given_up = refl;
  acks = refl;
  refusals = refl;
  past_last = refl;
  own_reply = refl;
  counted = refl;
  other_host = refl;
  replies = refl;
  idle_ones = refl;
  a_round = refl;
  still = refl;
  alls = refl;
  brought = refl;
  states = refl;
  letters_left = refl;
  in_all = refl;
}
