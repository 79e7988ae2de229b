use Rattle.std.proofs.Common.{◌∙◌, ap}
use Rattle.flow_key.specs.KeyText.{address_of}
use Rattle.flow_key.proofs.KeyLemmas.{address_spelled, address_again}
use Rattle.flow_key.proofs.words.address.Goals as goal

pub returns-clause-spelled : goal.returns-clause-spelled
returns-clause-spelled c = address_spelled c.args.word.now c.address_in.result c.address_in.ensures.value

pub returns-clause-only : goal.returns-clause-only
returns-clause-only c = λ bytes fits is. c.address_in.ensures.value ∙ ap address_of is ∙ address_again bytes fits
