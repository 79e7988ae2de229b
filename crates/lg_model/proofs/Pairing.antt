-- Lists that stand for each other item by item.
use Rattle.std.specs.Prelude.{◌≡◌, ℕ, zero, suc, ◌+◌, ◌<◌, slice_index_or, List, [], ◌∷◌, ◌++◌, length, Option, None, Some}
use Rattle.std.proofs.Common.{refl, ap, subst, sym, ◌∙◌, arith}
use Rattle.lg_model.specs.Matching.{Matched, MatchedOption}

pub matched_append : {X Y : Type 0} (R : X → Y → Type 0) (xs zs : List X) (ys ws : List Y) → Matched R xs ys → Matched R zs ws → Matched R (xs ++ zs) (ys ++ ws)
matched_append R [] zs [] ws h k = k
matched_append R [] zs (y ∷ ys) ws h k = absurd h
matched_append R (x ∷ xs) zs [] ws h k = absurd h
matched_append R (x ∷ xs) zs (y ∷ ys) ws h k = (h.0, matched_append R xs zs ys ws h.1 k)

pub matched_push : {X Y : Type 0} (R : X → Y → Type 0) (xs : List X) (ys : List Y) (x : X) (y : Y) → Matched R xs ys → R x y → Matched R (xs ++ x ∷ []) (ys ++ y ∷ [])
matched_push R xs ys x y h k = matched_append R xs (x ∷ []) ys (y ∷ []) h (k, tt)

-- the last items, and those before them
pub record Parted {X Y : Type 0} (R : X → Y → Type 0) (xs : List X) (x : X) (ys : List Y) : Type 0 where
  pub front : List Y
  pub last : Y
  pub is : ys ≡ front ++ last ∷ []
  pub before : Matched R xs front
  pub here : R x last

pub matched_pop : {X Y : Type 0} (R : X → Y → Type 0) (xs : List X) (x : X) (ys : List Y) → Matched R (xs ++ x ∷ []) ys → Parted R xs x ys
matched_pop R [] x [] h = absurd h
matched_pop R [] x (y ∷ []) h = record { front = []; last = y; is = refl; before = tt; here = h.0 }
matched_pop R [] x (y ∷ z ∷ ys) h = absurd h.1
matched_pop R (w ∷ xs) x [] h = absurd h
matched_pop R (w ∷ xs) x (y ∷ ys) h =
    let rest = matched_pop R xs x ys h.1 in
    record { front = y ∷ rest.front; last = rest.last; is = ap (λ zs. y ∷ zs) rest.is; before = (h.0, rest.before); here = rest.here }

pub matched_none : {X Y : Type 0} (R : X → Y → Type 0) (ys : List Y) → Matched R [] ys → ys ≡ []
matched_none R [] h = refl
matched_none R (y ∷ ys) h = absurd h

pub matched_length : {X Y : Type 0} (R : X → Y → Type 0) (xs : List X) (ys : List Y) → Matched R xs ys → length xs ≡ length ys
matched_length R [] [] h = refl
matched_length R [] (y ∷ ys) h = absurd h
matched_length R (x ∷ xs) [] h = absurd h
matched_length R (x ∷ xs) (y ∷ ys) h = let rest = matched_length R xs ys h.1 in let e : length (x ∷ xs) ≡ length (y ∷ ys) = omega arith in e

pub matched_at : {X Y : Type 0} (R : X → Y → Type 0) (xs : List X) (ys : List Y) (i : ℕ) (x : X) (y : Y) → Matched R xs ys → i < length xs → R (slice_index_or xs i x) (slice_index_or ys i y)
matched_at R [] ys i x y h inside = absurd (omega arith)
matched_at R (a ∷ xs) [] i x y h inside = absurd h
matched_at R (a ∷ xs) (b ∷ ys) zero x y h inside = h.0
matched_at R (a ∷ xs) (b ∷ ys) (suc i) x y h inside = matched_at R xs ys i x y h.1 (omega arith)
