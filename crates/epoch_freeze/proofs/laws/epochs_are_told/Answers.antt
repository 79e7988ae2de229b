use Rattle.epoch_freeze.proofs.Histories.{law}
use Rattle.epoch_freeze.proofs.laws.epochs_are_told.Goals as goal

pub returns : goal.returns
returns c = law
