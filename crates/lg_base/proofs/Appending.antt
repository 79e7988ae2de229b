-- Known bytes that grow twice.
use Rattle.std.specs.Prelude.{◌≡◌, ℕ, List, [], ◌++◌, Option, None, Some}
use Rattle.std.specs.Io.KnownBytes.{Appends}
use Rattle.std.proofs.Common.{◌+◌, ◌-◌, length, take, drop, arith, sym, ap, ◌∙◌, append_assoc, append-nil, take_all, length-drop, drop-drop, take-append-drop}

pub Appends-none : (old : Option (List ℕ)) → Appends old old []
Appends-none None = tt
Appends-none (Some xs) = sym (append-nil xs)

pub Appends-more : (a b c : Option (List ℕ)) (xs ys : List ℕ) → Appends a b xs → Appends b c ys → Appends a c (xs ++ ys)
Appends-more None b c xs ys h k = tt
Appends-more (Some ps) None c xs ys h k = absurd h
Appends-more (Some ps) (Some qs) None xs ys h k = absurd k
Appends-more (Some ps) (Some qs) (Some rs) xs ys h k = k ∙ ap (λ w. w ++ ys) h ∙ append_assoc ps xs ys

-- `&xs[at..]` is what stands from at on
pub slice_rest : (at : ℕ) (xs : List ℕ) → take (length xs - at) (drop at xs) ≡ drop at xs
slice_rest at xs = take_all (length xs - at) (drop at xs) (omega (arith, length-drop at xs))

-- a front that was copied, and what stands behind it
pub front_and_rest : (n at : ℕ) (xs buf left : List ℕ) → drop at xs ≡ left → take n buf ≡ take n (take (length xs - at) (drop at xs)) →
    left ≡ take n buf ++ drop (at + n) xs
front_and_rest n at xs buf left is copied =
    rw (← is, copied, slice_rest at xs, ← drop-drop n at xs) (sym (take-append-drop n (drop at xs)))
