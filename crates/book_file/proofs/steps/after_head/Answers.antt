use Rattle.std.proofs.Common.{arith}
use Rattle.book_file.proofs.Stepping.{known, shut_long, no_shape}
use Rattle.book_file.proofs.steps.after_head.Goals as goal

pub returns-then-head-ne1 : goal.returns-then-head-ne1
returns-then-head-ne1 c =
    λ gate. known c.args.asked c.args.room c.args.len gate _ c.args.head.now c.args.head.now
    (shut_long c.args.asked c.args.room c.args.len gate c.args.head.now c.requires.head c.if-head-ne1.true (omega arith))

pub returns-in-None : goal.returns-in-None
returns-in-None c = λ gate.
    let none = rw c.in-None.is at c.shape_of.ensures in
    known c.args.asked c.args.room c.args.len gate _ c.args.head.now c.args.head.now
    (no_shape c.args.asked c.args.room c.args.len gate c.args.head.now c.requires.head (omega arith) none)

pub returns-in-Some : goal.returns-in-Some
returns-in-Some c = λ gate.
    let found = rw c.in-Some.is at c.shape_of.ensures in
    c.begun.ensures c.args.len gate c.args.head.now found.0 found.1
