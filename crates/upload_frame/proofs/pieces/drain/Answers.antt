use Rattle.upload_frame.specs.Frames.{frames}
use Rattle.upload_frame.proofs.Streams.{readers, rest_falls, dry_none}
use Rattle.upload_frame.proofs.pieces.drain.Goals as goal

pub returns-in-Ok-None : goal.returns-in-Ok-None
returns-in-Ok-None c = λ stream h. dry_none frames stream c.loop-frame.out.items c.loop-frame.reader c.next.new.self (c.loop-frame.invariant stream h)
    (rw c.in-Ok-None.field-0-is at c.in-Ok-None.ensures)

pub loop-frame-smaller : goal.loop-frame-smaller
loop-frame-smaller c = rest_falls frames c.loop-frame.reader c.in-Ok-Some.frame c.next.new.self (rw c.in-Ok-Some.field-0-is at c.in-Ok-Some.ensures)

pub loop-frame-preserved : goal.loop-frame-preserved
loop-frame-preserved c = λ stream h.
    rw c.in_ok-push-in-Ok-Some.ensures.items ((readers frames).gave stream c.loop-frame.out.items c.in-Ok-Some.frame c.loop-frame.reader c.next.new.self
    (c.loop-frame.invariant stream h) (rw c.in-Ok-Some.field-0-is at c.in-Ok-Some.ensures))
