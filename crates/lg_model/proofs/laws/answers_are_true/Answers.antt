use Rattle.lg_model.proofs.Answering.{true_answer}
use Rattle.lg_model.proofs.laws.answers_are_true.Goals as goal

pub returns : goal.returns
returns c = true_answer
