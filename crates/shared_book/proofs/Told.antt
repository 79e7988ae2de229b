-- What an apply tells, by what the pass has seen after it.
use Rattle.std.proofs.Common.{◌≡◌, ℕ, ◌+◌, List, [], ◌∷◌, ◌++◌, length, take, Result, Ok, Err, refl, sym, ap, ◌∙◌, subst, length-append, take_at}
use Rattle.lg_model.specs.Placing.{Shape}
use Rattle.sketchlet_wire.specs.Uploads.{UploadData}
use Rattle.column_book.specs.declared.entry.Entry.{Entry}
use Rattle.column_book.specs.Applying.{stored_entry}
use Rattle.book_journal.specs.declared.applied.Applied.{Applied}
use Rattle.book_journal.specs.declared.applied.Applied.TheVariants.{Stored, Known}
use Rattle.book_journal.specs.declared.applied.ApplyFault.{ApplyFault}
use Rattle.book_journal.specs.declared.applied.ApplyFault.TheVariants.{Broken, WrongShape, Conflict, Full, Memory, DiskFault}
use Rattle.lock_rule.specs.declared.view.Mark.{Mark}
use Rattle.lock_rule.specs.declared.view.Mark.TheVariants.{Clear, Seen, Carries}
use Rattle.lock_rule.specs.declared.view.View.{View}
use Rattle.lock_rule.specs.Plays.{set_mark}
use Rattle.lock_rule.specs.Views.{Marked}
use Rattle.shared_book.specs.Passes.{IsRight, IsTold, LawOfApplies, mark_for, seen_after}

set_is_marked : (m : Mark) → Marked (set_mark m)
set_is_marked Clear = tt
set_is_marked Seen = tt
set_is_marked (Carries e) = tt

-- the pass after it, with all that changes
abbrev then : ℕ → UploadData → View → List Entry → Result Applied ApplyFault → View
then n u v es answer = record v { seen = seen_after n u es answer; begun = v.begun + 1; mark = mark_for n u es v.mark answer }

told : (shape : Shape) (room : ℕ) (u : UploadData) (v : View) (es : List Entry) (answer : Result Applied ApplyFault) → IsRight shape room v.number u es answer
    → IsTold shape room u (then v.number u v es answer) answer
told shape room u v es (Ok (Stored p)) r =
    let e : Entry = stored_entry v.number es u in
    let long : length (es ++ e ∷ []) ≡ length es + 1 = length-append es (e ∷ []) in
    let front : take p (es ++ e ∷ []) ≡ es = take_at es (e ∷ []) p (sym r.1) in
    (long ∙ ap (λ (k : ℕ). k + 1) (sym r.1), ap (λ (xs : List Entry). xs ++ stored_entry v.number xs u ∷ []) (sym front))
told shape room u v es (Ok Known) r = r
told shape room u v es (Err (Broken n)) r = (set_is_marked v.mark, r)
told shape room u v es (Err (WrongShape kept came)) r = r
told shape room u v es (Err (Conflict key kept came)) r = r
told shape room u v es (Err (Full held more)) r = r
told shape room u v es (Err Memory) r = r
told shape room u v es (Err DiskFault) r = (r, refl)

pub law : LawOfApplies
law shape room u v w answer s = subst (λ (x : View). IsTold shape room u x answer) (sym s.after) (told shape room u v s.list answer s.right)
