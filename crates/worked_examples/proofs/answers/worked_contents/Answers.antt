use Rattle.worked_examples.proofs.Apart.{apart}
use Rattle.std.proofs.Common.{refl}
use Rattle.worked_examples.proofs.answers.worked_contents.Goals as goal

pub returns : goal.returns
returns c = record {
  order = refl;
  content = refl;
  looked_up = refl;
  joined = refl;
  apart = apart;
}
