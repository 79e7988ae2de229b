use Rattle.std.proofs.Common.{arith, length-drop, take-add}
use Rattle.lg_base.proofs.Appending.{Appends-more, slice_rest}
use Rattle.lg_base.proofs.put.put_all.Goals as goal

pub loop-at-preserved : goal.loop-at-preserved
loop-at-preserved g c =
    let bound = c.in-Ok.ensures.bound in
    let cause = c.in-Ok.ensures.cause in
    record {
      inside = omega (arith, length-drop c.loop-at.at c.args.bytes.now);
      later = omega arith;
      appended = rw (take-add c.loop-at.at c.in-Ok.count c.args.bytes.now)
          (let more = rw (slice_rest c.loop-at.at c.args.bytes.now) at c.in-Ok.ensures.bytes in Appends-more _ _ _ _ _ c.loop-at.invariant.appended more);
    }
