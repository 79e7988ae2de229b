use Rattle.lg_model.proofs.Allowing.{picked_is_allowed}
use Rattle.lg_model.proofs.laws.picked_lists_are_allowed.Goals as goal

pub returns : goal.returns
returns c = picked_is_allowed
