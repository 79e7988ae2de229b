-- Things that happen one after the other, each of which takes a state to a state.
use Rattle.std.specs.Prelude.{◌≡◌, List, [], ◌∷◌}

-- From s to t by all of the list, each by the relation R.
abbrev pub Runs : {X S : Type 0} → (X → S → S → Type 0) → List X → S → S → Type 0
Runs R [] s t = t ≡ s
Runs {X} {S} R (x ∷ xs) s t = (u : S) × R x s u × Runs R xs u t
