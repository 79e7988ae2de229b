use Rattle.std.proofs.Common.{◌∙◌, ap}
use Rattle.flow_key.specs.KeyText.{key_of}
use Rattle.flow_key.proofs.KeyLemmas.{found, no_key, key_again}
use Rattle.flow_key.proofs.key.FlowKey.parse.Goals as goal

pub returns-clause-found : goal.returns-clause-found
returns-clause-found c = found c.args.text.now c.read.result c.read.ensures.value

pub returns-clause-none : goal.returns-clause-none
returns-clause-none c = no_key c.args.text.now c.read.result c.read.ensures.value

pub returns-clause-only : goal.returns-clause-only
returns-clause-only c = λ k fits is. c.read.ensures.value ∙ ap key_of is ∙ key_again k fits
