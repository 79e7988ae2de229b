use Rattle.std.proofs.Common.{◌≡◌, ◌⊎◌, ◌++◌, ℕ, List, Option, true, false, length, subst}
use Rattle.lg_model.specs.Placing.{Shape}
use Rattle.std.proofs.Common.{Result}
use Rattle.book_file.specs.declared.found.OpenFault.{OpenFault}
use Rattle.book_file.specs.declared.found.Found.{Found}
use Rattle.book_file.specs.Found.{Finds}
use Rattle.book_file.specs.Walk.{WalkState, HasRead, Stands, is_ended}
use Rattle.book_file.proofs.Endings.{finds_whole, finds_some}
use Rattle.book_file.proofs.walk.Walk.finish.Goals as goal

pub returns-clause-finds : goal.returns-clause-finds
returns-clause-finds c = λ read more h size.
    let e = c.ending.ensures in
    let s = c.self.inside in
    let going = subst (λ (l : List ℕ). (asked : Option Shape) (room len : ℕ) (r : List ℕ) → Stands asked room len s.gate s.stage l r
    → length r ≡ s.fed → is_ended s.stage ≡ false → Finds asked room r c.ending.result) c.deref.ensures.value e.going in
    subst (λ (w : WalkState). (w.fed ≡ w.len) ⊎ (is_ended w.stage ≡ true) → HasRead w read → length (read ++ more) ≡ w.len
    → Finds w.asked w.room (read ++ more) c.ending.result) c.self.view_is
    (λ all h2 size2. finds_whole _ c.ending.result e.ended going all read more h2 size2) c.requires h size

pub returns-clause-somewhere : goal.returns-clause-somewhere
returns-clause-somewhere c =
    let e = c.ending.ensures in
    let s = c.self.inside in
    let going = subst (λ (l : List ℕ). (asked : Option Shape) (room len : ℕ) (r : List ℕ) → Stands asked room len s.gate s.stage l r
    → length r ≡ s.fed → is_ended s.stage ≡ false → Finds asked room r c.ending.result) c.deref.ensures.value e.going in
    subst (λ (w : WalkState). (w.fed ≡ w.len) ⊎ (is_ended w.stage ≡ true) → (file : List ℕ) × Finds w.asked w.room file c.ending.result)
    c.self.view_is
    (λ all. finds_some _ c.ending.result c.self.invariant e.ended going all) c.requires

pub returns-clause-no_disk : goal.returns-clause-no_disk
returns-clause-no_disk c = λ fault.
    let some = returns-clause-somewhere c in
    subst (λ (r : Result Found OpenFault). Finds c.args.self.asked c.args.self.room some.0 r) fault some.1
