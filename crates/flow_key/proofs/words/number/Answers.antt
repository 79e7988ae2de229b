use Rattle.std.proofs.Common.{◌∙◌, ap, arith}
use Rattle.flow_key.specs.Words.{number_to}
use Rattle.flow_key.proofs.KeyLemmas.{spelled, number_again}
use Rattle.flow_key.proofs.words.number.Goals as goal

pub returns-clause-spelled : goal.returns-clause-spelled
returns-clause-spelled c = spelled c.args.most c.args.word.now c.number_in.result (omega arith) c.number_in.ensures.value

pub returns-clause-only : goal.returns-clause-only
returns-clause-only c = λ n le is. c.number_in.ensures.value ∙ ap (number_to c.args.most) is ∙ number_again c.args.most n (omega arith) le
