use Rattle.std.proofs.Common.{◌++◌, ◌∷◌, ◌≤◌, get_or, sym, subst}
use Rattle.column_book.specs.Entries.{records}
use Rattle.std.proofs.lemmas.Bool.{MatchBool-at_false}
use Rattle.book_file.specs.declared.stage.Stage.{Stage}
use Rattle.book_file.specs.File.{front}
use Rattle.book_file.specs.Walk.{Steps}
use Rattle.book_file.proofs.Stepping.{known, breaks, bad_count}
use Rattle.book_file.proofs.steps.after_lead.Goals as goal

pub returns-else-is_count : goal.returns-else-is_count
returns-else-is_count c = λ asked room len going.
    let b = c.args.book in
    let lead = c.args.lead.now in
    let bad : (1 ≤ get_or lead 6 0) × (get_or lead 6 0 ≤ 16) → ⊥ = MatchBool-at_false _ _ c.if-is_count.false c.is_count.ensures in
    subst (λ (s : Stage). Steps asked room len c.args.at s lead (front b.shape (records b.entries) ++ 1 ∷ lead)) (sym c.damaged.ensures)
    (known asked room len c.args.at _ lead _
    (breaks asked room c.args.at b going len lead (bad_count b.shape (records b.entries) lead c.requires bad)))
