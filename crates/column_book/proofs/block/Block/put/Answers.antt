use Rattle.std.proofs.Common.{arith}
use Rattle.column_book.proofs.Places.{put_in}
use Rattle.column_book.proofs.block.Block.put.Goals as goal

pub returns-then-free-clause-put : goal.returns-then-free-clause-put
returns-then-free-clause-put c = λ j. rw c.if-free.true (put_in c.args.self.now c.args.place j c.args.buckets.now c.requires (omega arith))
