use Rattle.flow_query.proofs.Telling.{law}
use Rattle.flow_query.proofs.laws.answers_are_exact.Goals as goal

pub returns : goal.returns
returns c = law
