use Rattle.lg_model.proofs.Tracing.{law_of_the_frozen}
use Rattle.lg_model.proofs.laws.frozen_is_settled.Goals as goal

pub returns : goal.returns
returns c = law_of_the_frozen
