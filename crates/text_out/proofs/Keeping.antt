-- What an appending function keeps, one piece after the other.
use Rattle.std.specs.Prelude.{◌≡◌, ℕ, List, ◌++◌, length, take, drop}
use Rattle.std.proofs.Common.{refl, sym, ap, ◌∙◌, append_assoc}
use Rattle.std.proofs.Math.Seq.{take-length}
use Rattle.std.proofs.lemmas.List.{take_at, take-append-drop}
use Rattle.text_out.specs.Appending.{Keeps}

pub keeps_itself : (before after : List ℕ) → after ≡ before → Keeps before after
keeps_itself before after is = record { front = rw is (take-length before) }

pub keeps_after : (before text middle after : List ℕ) → middle ≡ before ++ text → Keeps middle after → Keeps before after
keeps_after before text middle after is keeps =
    let rest = drop (length middle) after in
    let whole : after ≡ before ++ (text ++ rest)
    = sym (take-append-drop (length middle) after) ∙ ap (λ (front : List ℕ). front ++ rest) (keeps.front ∙ is) ∙ append_assoc before text rest in
    record { front = ap (λ (all : List ℕ). take (length before) all) whole ∙ take_at before (text ++ rest) (length before) refl }
