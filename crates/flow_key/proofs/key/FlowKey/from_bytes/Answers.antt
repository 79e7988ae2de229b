use Rattle.std.proofs.Common.{◌∙◌, ap}
use Rattle.flow_key.proofs.ByteLemmas.{key_in, key_back}
use Rattle.flow_key.proofs.key.FlowKey.from_bytes.Goals as goal

pub returns-clause-only : goal.returns-clause-only
returns-clause-only c = λ k fits is. rw (c.from_be_bytes.ensures, c.from_be_bytes-2.ensures) (ap key_in is ∙ key_back k fits)
