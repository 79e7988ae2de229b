use Rattle.std.proofs.Common.{refl}
use Rattle.worked_examples.proofs.answers.worked_arrivals.Goals as goal

pub returns : goal.returns
returns c = record {
  order = refl;
  held_so_far = refl;
  once = refl;
  carried = refl;
  named = refl;
  cargos = refl;
  at_hosts = refl;
  at_all = refl;
  more_hosts = refl;
  all_hosts = refl;
}
