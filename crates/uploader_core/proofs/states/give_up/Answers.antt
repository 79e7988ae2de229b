use Rattle.std.proofs.Common.{◌≡◌, ◌<◌, ◌+◌, ℕ, List, ◌∙◌, ap, sym, arith, rules, length, set, false, get_or-set_other, get_or-set_same, below_more}
use Rattle.std.proofs.lemmas.List.{length-set}
use Rattle.uploader_core.specs.declared.state.SeqState.{SeqState}
use Rattle.uploader_core.specs.declared.state.SeqState.TheVariants.{Idle, Refused}
use Rattle.uploader_core.specs.States.{is_outstanding, state_at}
use Rattle.uploader_core.proofs.Tallies.{ticked_none, ticked_no, ticked_set, state_read, gives_up}
use Rattle.uploader_core.proofs.states.give_up.Goals as goal
use Rattle.uploader_core.proofs.states.give_up.Goals.{then-is_outstanding, else-is_outstanding}

pub returns-then-left-eq0-clause-states : goal.returns-then-left-eq0-clause-states
returns-then-left-eq0-clause-states c = sym (ticked_none c.loop-seq.states (search rules)) ∙ c.loop-seq.invariant.same

none_set : (ss : List SeqState) (at : ℕ) → at < length ss → ((k : ℕ) → k < at → is_outstanding (state_at ss k) ≡ false) → (k : ℕ) → k < at + 1 → is_outstanding (state_at (set ss at Idle) k) ≡ false
none_set ss at lt none =
    below_more (λ k. is_outstanding (state_at (set ss at Idle) k) ≡ false) at
    (λ k below. ap is_outstanding (get_or-set_other ss at k Idle Refused (omega arith)) ∙ none k below)
    (ap is_outstanding (get_or-set_same ss at Idle Refused lt))

pub loop-seq-preserved : goal.loop-seq-preserved
loop-seq-preserved c =
    let ss = c.loop-seq.states in
    let at = c.loop-seq.seq in
    let lt : at < length ss = omega arith in
    let i = c.loop-seq.invariant in
    let read = ap is_outstanding (sym (state_read ss at _ lt)) ∙ sym c.is_outstanding.ensures in
    elim c.if-is_outstanding.branch [
      | then-is_outstanding w ↦
          let out = read ∙ w.if-is_outstanding.true in
          rw (w.states-is, w.left-is, w.first-is)
          record {
            same = ticked_set ss at out ∙ i.same;
            counted = gives_up ss at c.loop-seq.left lt i.counted out;
            none = none_set ss at lt i.none;
            first = λ k below le. i.first k (omega arith) (omega arith);
            later = λ k after. get_or-set_other ss at k Idle Refused (omega arith) ∙ i.later k (omega arith);
            within = omega (arith, length-set ss at Idle);
          }
      | else-is_outstanding w ↦
          let not_out = read ∙ w.if-is_outstanding.false in
          rw (w.states-is, w.left-is, w.first-is)
          record {
            same = i.same;
            counted = i.counted;
            none = below_more (λ k. is_outstanding (state_at ss k) ≡ false) at i.none not_out;
            first = λ k inside below. below_more (λ j. j < c.loop-seq.first → is_outstanding (state_at c.args.states.now j) ≡ false) at (λ j le lf. i.first j lf le) (λ _. ap is_outstanding (sym (i.later at (omega arith))) ∙ not_out) k below inside;
            later = λ k after. i.later k (omega arith);
            within = i.within;
          }
    ]

pub returns-clause-states : goal.returns-clause-states
returns-clause-states c = sym (ticked_no c.loop-seq.states (λ k lt. c.loop-seq.invariant.none k (omega arith))) ∙ c.loop-seq.invariant.same
