use Rattle.std.proofs.Common.{◌≡◌, ◌∙◌, false, ap, sym}
use Rattle.book_file.specs.Walk.{WalkState, is_ended}
use Rattle.book_file.proofs.Feeding.{not_ended}
use Rattle.book_file.proofs.Closings.{still_going}
use Rattle.book_file.proofs.walk.Walk.ended.Goals as goal

pub returns-in_default-clause-closed : goal.returns-in_default-clause-closed
returns-in_default-clause-closed c = λ read shape entries h suits spells few.
    let w = c.args.self.now in
    let going : is_ended w.stage ≡ false = ap (λ (x : WalkState). is_ended x.stage) (sym c.self.view_is)
    ∙ not_ended c.self.inside.stage c.in_default.not-Ended in
    absurd (still_going w.asked w.room w.len w.gate w.rest read shape entries suits spells few w.stage going h.stands)
