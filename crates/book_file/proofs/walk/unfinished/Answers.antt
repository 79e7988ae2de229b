use Rattle.std.proofs.Common.{ℕ, List, sym, subst}
use Rattle.book_file.specs.declared.stage.Stage.{Stage}
use Rattle.book_file.specs.Found.{Finds}
use Rattle.book_file.specs.Walk.{Waits}
use Rattle.book_file.proofs.Endings.{cut_later}
use Rattle.book_file.proofs.walk.unfinished.Goals as goal

pub returns-in-Head-clause-finds : goal.returns-in-Head-clause-finds
returns-in-Head-clause-finds c = λ asked room len read s size e.
    let same = subst (λ (x : Stage). Waits asked room len c.args.gate x c.args.rest.now read) c.in-Head.is s.waits in
    subst (λ (l : List ℕ). Finds asked room l c.within_head.result) (sym same) (c.within_head.ensures.finds asked room)

pub returns-in_default : goal.returns-in_default
returns-in_default c = record {
  finds = λ asked room len read s size e. cut_later asked room len c.args.gate c.args.rest.now read c.args.stage.now c.in_default.not-Head
      c.in_default.not-Gate e s;
  memory = λ e m. absurd cc;
}
