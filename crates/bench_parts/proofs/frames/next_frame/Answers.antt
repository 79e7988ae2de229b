use Rattle.upload_frame.specs.Frames.{frames}
use Rattle.bench_parts.proofs.Held.{holds_no_more}
use Rattle.bench_parts.proofs.frames.next_frame.Goals as goal

pub returns : goal.returns
returns c = holds_no_more frames c.args.reader.now c.next.new.self c.next.result c.next.ensures
