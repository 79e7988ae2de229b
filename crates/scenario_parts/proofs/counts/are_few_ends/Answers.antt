use Rattle.std.proofs.Common.{length, refl, length-set, ◌+◌, ◌∷◌, [], ◌++◌, take, ap, ◌∙◌, arith, lit<}
use Rattle.std.proofs.Math.Facts.{Fits-of_lt}
use Rattle.scenario_lines.proofs.CountLemmas.{zeros, end_counted}
use Rattle.scenario_parts.proofs.CountLemmas.{one_more, other_counted, end_in_range, too_many, few_more, all_counted, ends_few}
use Rattle.scenario_parts.proofs.counts.are_few_ends.Goals.{in-End, in-EndAll, in-Packet, in-Release}
use Rattle.scenario_parts.proofs.counts.are_few_ends.Goals as goal

pub loop-step-init : goal.loop-step-init
loop-step-init c = record { len = refl; counted = λ i lt. ap (λ n. n + 0) (zeros 64 i) }

pub overflow_add-ends_of_all : goal.overflow_add-ends_of_all
overflow_add-ends_of_all c =
    Fits-of_lt (omega (
      arith,
      c.loop-step.invariant.counted 0 (lit< tt),
      ends_few c.args.steps.now c.loop-step.step-index 0 c.loop-step.auto.step-index-end,
      c.loop-step-test.true,
    ))

pub loop-step-preserved : goal.loop-step-preserved
loop-step-preserved c = elim c.match-step.branch [
  | in-End w ↦ record {
    len = rw w.ends-is (length-set c.loop-step.ends w.in-End.switch_at _ ∙ c.loop-step.invariant.len);
    counted = λ k lt.
        let at = end_in_range (length c.args.switches.now) c.args.steps.now c.loop-step.step-index w.in-End.switch_at c.step-item.result
        c.requires.positions c.loop-step-test.true c.step-item.is w.in-End.is in
        rw (w.ends-is, w.ends_of_all-is)
        (end_counted c.loop-step.ends c.loop-step.ends_of_all w.in-End.switch_at k (take c.loop-step.step-index c.args.steps.now)
        (take (c.loop-step.step-index + 1) c.args.steps.now)
        (one_more c.args.steps.now c.loop-step.step-index c.step-item.result c.loop-step-test.true c.step-item.is
        ∙ ap (λ t. take c.loop-step.step-index c.args.steps.now ++ t ∷ []) w.in-End.is) (omega (arith, at, c.requires.few, c.loop-step.invariant.len))
        (c.loop-step.invariant.counted k lt));
  }
  | in-EndAll w ↦ record {
    len = rw w.ends-is c.loop-step.invariant.len;
    counted = λ k lt. other_counted c.args.steps.now c.loop-step.step-index k c.step-item.result _ _ c.loop-step-test.true c.step-item.is
        (c.loop-step.invariant.counted k lt) (rw (w.ends-is, w.ends_of_all-is, w.in-EndAll.is) (omega arith));
  }
  | in-Packet w ↦ record {
    len = rw w.ends-is c.loop-step.invariant.len;
    counted = λ k lt. other_counted c.args.steps.now c.loop-step.step-index k c.step-item.result _ _ c.loop-step-test.true c.step-item.is
        (c.loop-step.invariant.counted k lt) (rw (w.ends-is, w.ends_of_all-is, w.in-Packet.is) (omega arith));
  }
  | in-Release w ↦ record {
    len = rw w.ends-is c.loop-step.invariant.len;
    counted = λ k lt. other_counted c.args.steps.now c.loop-step.step-index k c.step-item.result _ _ c.loop-step-test.true c.step-item.is
        (c.loop-step.invariant.counted k lt) (rw (w.ends-is, w.ends_of_all-is, w.in-Release.is) (omega arith));
  }
]

pub returns-then-ends-at : goal.returns-then-ends-at
returns-then-ends-at c = too_many (length c.args.switches.now) c.args.steps.now c.loop-at.at c.loop-at-test.true
    (omega (
      arith,
      c.if-ends-at.true,
      all_counted c.args.steps.now c.loop-step.step-index c.loop-at.at _ c.loop-step-test.false
          (c.loop-step.invariant.counted c.loop-at.at (omega (arith, c.requires.few))),
    ))

pub loop-at-preserved : goal.loop-at-preserved
loop-at-preserved c = few_more c.args.steps.now c.loop-at.at c.loop-at.invariant
    (omega (
      arith,
      c.if-ends-at.false,
      all_counted c.args.steps.now c.loop-step.step-index c.loop-at.at _ c.loop-step-test.false
          (c.loop-step.invariant.counted c.loop-at.at (omega (arith, c.requires.few))),
    ))
