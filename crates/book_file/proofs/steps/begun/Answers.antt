use Rattle.std.proofs.Common.{◌≡◌, sym, subst, Option, true}
use Rattle.std.proofs.lemmas.Bool.{MatchBool-at_true}
use Rattle.lg_model.specs.Placing.{Shape}
use Rattle.book_file.specs.Found.{Suits}
use Rattle.book_file.proofs.Stepping.{begins, suits_none}
use Rattle.book_file.proofs.steps.begun.Goals.{in-Some+else-not-is_same, in_default}
use Rattle.book_file.proofs.steps.begun.Goals as goal

pub returns-in-Ok : goal.returns-in-Ok
returns-in-Ok c = λ len gate read fits is.
    let suits : Suits c.args.asked c.args.kept = elim c.match-asked.branch [
      | in-Some+else-not-is_same w ↦
          let t : w.is_same.result ≡ true = cc in
          let same : w.in-Some.asked ≡ c.args.kept = MatchBool-at_true _ _ t w.is_same.ensures in
          subst (λ (o : Option Shape). Suits o c.args.kept) (sym w.in-Some.is) (sym same)
      | in_default w ↦ suits_none c.args.asked c.args.kept w.in_default.not-Some
    ] in
    begins c.args.asked c.args.room gate len c.args.kept c.in-Ok.book read read c.in-Ok.ensures suits fits is
