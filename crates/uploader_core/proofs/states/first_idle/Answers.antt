use Rattle.std.proofs.Common.{◌∙◌, sym, ap, arith}
use Rattle.std.proofs.lemmas.List.Sums.{position_or_len_is}
use Rattle.uploader_core.specs.declared.state.SeqState.TheVariants.{Refused}
use Rattle.uploader_core.specs.States.{is_idle}
use Rattle.uploader_core.proofs.Tallies.{state_read}
use Rattle.uploader_core.proofs.states.first_idle.Goals as goal

pub returns-then-is_idle : goal.returns-then-is_idle
returns-then-is_idle c =
    sym (position_or_len_is is_idle c.args.states.now c.loop-seq.seq Refused (omega arith) c.loop-seq.invariant
    (λ lt. ap is_idle (sym (state_read c.args.states.now c.loop-seq.seq _ lt)) ∙ sym c.is_idle.ensures ∙ c.if-is_idle.true))

pub returns : goal.returns
returns c = sym (position_or_len_is is_idle c.args.states.now _ Refused (omega arith) (λ k lt. c.loop-seq.invariant k (omega arith)) (λ lt. absurd (omega arith)))
