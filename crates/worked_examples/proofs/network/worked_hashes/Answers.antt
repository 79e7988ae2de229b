use Rattle.std.specs.Fmt.{digits}
use Rattle.flow_key.specs.KeyText.{number_word, address_of, address_word, key_words, key_of}
use Rattle.flow_key.specs.Words.{is_number, value_to, number_to}
use Rattle.std.proofs.Common.{refl}
use Rattle.worked_examples.proofs.network.worked_hashes.Goals as goal

pub returns : goal.returns
unfolding digits number_word address_of address_word key_words key_of is_number value_to number_to
returns c = record {
  bytes = refl;
  text = refl;
  read = refl;
  last_ones = refl;
  past_last = refl;
  one = refl;
  others = refl;
  by_ports = refl;
  seeded = refl;
  last_seed = refl;
  places = refl;
  port_places = refl;
}
