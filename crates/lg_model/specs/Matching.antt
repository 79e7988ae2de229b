-- Two lists, or two options, that stand for each other item by item.
use Rattle.std.specs.Prelude.{List, [], ◌∷◌, Option, None, Some}

-- The lists are of one length, and R holds of the items at each position.
abbrev pub Matched : {X Y : Type 0} → (X → Y → Type 0) → List X → List Y → Type 0
Matched R [] [] = Unit {0}
Matched R [] (y ∷ ys) = ⊥
Matched R (x ∷ xs) [] = ⊥
Matched R (x ∷ xs) (y ∷ ys) = R x y × Matched R xs ys

-- Both are there and R holds of them, or neither is.
abbrev pub MatchedOption : {X Y : Type 0} → (X → Y → Type 0) → Option X → Option Y → Type 0
MatchedOption R None None = Unit {0}
MatchedOption R None (Some y) = ⊥
MatchedOption R (Some x) None = ⊥
MatchedOption R (Some x) (Some y) = R x y
