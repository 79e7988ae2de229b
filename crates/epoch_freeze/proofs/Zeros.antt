-- Counts of which none is above zero.
use Rattle.std.specs.Prelude.{◌≡◌, ℕ, ◌≤◌, List, length, replicate, slice_index}
use Rattle.std.proofs.Common.{sym, ◌∙◌, arith, ext_get_or}
use Rattle.std.proofs.lemmas.List.{length-replicate, get_or-replicate}

pub all_zero : (n put : ℕ) (times : List ℕ) → length times ≡ n → ((j : ℕ) → slice_index times j ≤ put) → put ≡ 0 → times ≡ replicate n 0
all_zero n put times wide few none =
    ext_get_or 0 times (replicate n 0) (wide ∙ sym (length-replicate n 0))
    (λ j h. let least = few j in
    let zero : slice_index times j ≡ 0 = omega (arith, none) in
    zero ∙ sym (get_or-replicate n j 0 0 (omega (arith, wide))))
