use Rattle.std.proofs.Common.{◌≡◌, ◌++◌, ◌-◌, ◌∙◌, ℕ, List, length, take, drop, ap, append_assoc, take-append-drop}
use Rattle.std.proofs.lemmas.List.{take_rest}
use Rattle.book_file.proofs.Feeding.{fed_then}
use Rattle.book_file.proofs.walk.Walk.feed.Goals as goal

pub loop-left-preserved : goal.loop-left-preserved
loop-left-preserved c =
    let i = c.loop-left.invariant in
    let left = c.loop-left.left.now in
    let n = c.if-ended.n in
    let rest : take n left ++ take (length left - n) (drop n left) ≡ left = ap (λ (l : List ℕ). take n left ++ l) (take_rest left n)
    ∙ take-append-drop n left in (
      i.0 ++ take n left,
      append_assoc i.0 (take n left) (take (length left - n) (drop n left)) ∙ ap (λ (l : List ℕ). i.0 ++ l) rest ∙ i.1,
      fed_then _ _ _ i.0 (take n left) i.2 c.take.ensures,
    )
