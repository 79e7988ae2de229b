-- One thing more happens.
use Rattle.std.specs.Prelude.{◌≡◌, List, [], ◌∷◌, ◌++◌}
use Rattle.std.proofs.Common.{refl, sym, subst}
use Rattle.lg_model.specs.Runs.{Runs}

pub runs_append : {X S : Type 0} (R : X → S → S → Type 0) (xs ys : List X) (s t u : S) → Runs R xs s t → Runs R ys t u → Runs R (xs ++ ys) s u
runs_append {X} {S} R [] ys s t u first rest = subst (λ (v : S). Runs R ys v u) first rest
runs_append R (x ∷ xs) ys s t u first rest = (first.0, first.1, runs_append R xs ys first.0 t u first.2 rest)

pub runs_more : {X S : Type 0} (R : X → S → S → Type 0) (xs : List X) (x : X) (s t u : S) → Runs R xs s t → R x t u → Runs R (xs ++ x ∷ []) s u
runs_more R xs x s t u first one = runs_append R xs (x ∷ []) s t u first (u, one, refl)

-- a fact that each thing keeps
pub runs_keep : {X S : Type 0} (R : X → S → S → Type 0) (K : S → Type 0) (xs : List X) (s t : S) → ((x : X) (u v : S) → R x u v → K u → K v) → Runs R xs s t → K s → K t
runs_keep R K [] s t keeps run h = subst K (sym run) h
runs_keep R K (x ∷ xs) s t keeps run h = runs_keep R K xs run.0 t keeps run.2 (keeps x s run.0 run.1 h)
