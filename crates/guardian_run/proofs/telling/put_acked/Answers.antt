use Rattle.guardian_run.proofs.AckedLines.{line_more}
use Rattle.guardian_run.proofs.telling.put_acked.Goals as goal

pub loop-seq-preserved : goal.loop-seq-preserved
loop-seq-preserved c =
    line_more c.args.uploader.now c.loop-seq.seq c.args.text.now.items c.loop-seq.text.items c.put_if_acked.new.text.items c.loop-seq.invariant
    c.in_ok-put_if_acked.ensures
