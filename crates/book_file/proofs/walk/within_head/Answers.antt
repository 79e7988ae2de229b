use Rattle.std.proofs.Common.{◌≡◌, ⊎_elim, get_or, arith}
use Rattle.book_file.proofs.Endings.{too_short}
use Rattle.book_file.proofs.walk.within_head.Goals as goal

pub returns-then-rest-eq1-clause-finds : goal.returns-then-rest-eq1-clause-finds
returns-then-rest-eq1-clause-finds c = λ asked room.
    let one : get_or c.args.rest.now 0 0 ≡ 1 = omega arith in
    (⊎_elim (λ le. omega arith) (λ b. b.1 one), λ shape h. too_short c.args.rest.now c.requires shape h)
