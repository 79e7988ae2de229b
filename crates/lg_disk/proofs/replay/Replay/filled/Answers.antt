use Rattle.std.proofs.Common.{ap, length, arith}
use Rattle.std.proofs.lemmas.List.{length_push}
use Rattle.lg_disk.proofs.Courses.{filled_more}
use Rattle.lg_disk.proofs.replay.Replay.filled.Goals as goal

pub loop-i-preserved : goal.loop-i-preserved
loop-i-preserved c =
    let bytes = c.loop-i.bytes.items in
    let pushed = c.in_ok-push.ensures.items in (
      omega (arith, ap length pushed, length_push bytes c.byte_at.result, c.loop-i.invariant.0),
      filled_more c.args.self.now c.args.byte c.loop-i.i c.byte_at.result bytes c.push.new.self.items
          c.loop-i.invariant.0 pushed c.loop-i.invariant.1 c.byte_at.ensures,
    )
