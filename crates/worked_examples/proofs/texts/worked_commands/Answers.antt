use Rattle.flow_key.specs.Words.{is_number, value_to, number_to}
use Rattle.std.proofs.Common.{refl}
use Rattle.worked_examples.proofs.texts.worked_commands.Goals as goal

pub returns : goal.returns
unfolding is_number value_to number_to
returns c = record {
  lone = refl;
  made = refl;
  rebuilt = refl;
  others = refl;
}
