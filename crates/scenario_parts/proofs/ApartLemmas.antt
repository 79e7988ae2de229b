-- Names that come once, from the first to the last.
use Rattle.std.proofs.Common.{◌≡◌, ◌≢◌, ℕ, ◌+◌, ◌<◌, ◌≤◌, Bool, true, false, eqb, ◌||◌, List, [], ◌∷◌, length, get_or, map, take, refl, sym, ap, ◌∙◌, arith}
use Rattle.std.specs.Prelude.{Decides}
use Rattle.std.specs.List.{list_any}
use Rattle.std.proofs.lemmas.List.{take_all, take_more, take-map, get_or-map, get_or-take, length-map, length-take-le, get_or_default}
use Rattle.std.proofs.lemmas.List.Folds.{list_any_none}
use Rattle.lg_model.specs.Keeping.{AreApart}
use Rattle.scenario_lines.proofs.NameLemmas.{apart_push}

-- One name more, which none before it is.
pub apart_more : (names : List ℕ) (i : ℕ) (n : ℕ) → i < length names → n ≡ get_or names i 0 → AreApart (take i names)
    → list_any (λ m. eqb m n) (take i names) ≡ false → AreApart (take (i + 1) names)
apart_more names i n lt is ok new = rw (take_more names i 0 lt, ← is) (apart_push (take i names) n ok new)

differ : (m n : ℕ) → (m ≢ n) → eqb m n ≡ false
differ m n ne = grind arith

no_more : (b : Bool) → b ≡ true → b ≡ false → ⊥
no_more true is isnt = cc
no_more false is isnt = cc

-- A name that one before it is.
pub apart_not : (names : List ℕ) (i : ℕ) (n : ℕ) → i < length names → n ≡ get_or names i 0 → list_any (λ m. eqb m n) (take i names) ≡ true
    → Decides false (AreApart names)
apart_not names i n lt is old = (λ e. absurd cc, λ ok. absurd (no_more (list_any (λ m. eqb m n) (take i names)) old (none ok))) where
  none : AreApart names → list_any (λ m. eqb m n) (take i names) ≡ false
  none ok = list_any_none (λ m. eqb m n) (take i names) (λ k d kt.
      let less : k < i = omega (arith, kt, length-take-le i names (omega arith)) in
      let here : get_or names i d ≡ n = get_or_default names i d 0 lt ∙ sym is in
      rw (get_or-take i names k d less) (differ (get_or names k d) n (λ e. ok k i d less lt (e ∙ sym here))))

pub apart_done : (names : List ℕ) (i : ℕ) → length names ≤ i → AreApart (take i names) → Decides true (AreApart names)
apart_done names i le ok = (λ _. rw (take_all i names le) at ok, λ _. refl)

-- ---- things that have names

list_any-map : {X : Type 0} (p : ℕ → Bool) (f : X → ℕ) (xs : List X) → list_any p (map f xs) ≡ list_any (λ x. p (f x)) xs
list_any-map p f [] = refl
list_any-map p f (x ∷ xs) = ap (λ (b : Bool). p (f x) || b) (list_any-map p f xs)

named_as : {X : Type 0} (name : X → ℕ) (xs : List X) (i n : ℕ) → list_any (λ m. eqb m n) (take i (map name xs)) ≡ list_any (λ x. eqb (name x) n) (take i xs)
named_as name xs i n = rw (take-map name i xs) (list_any-map (λ m. eqb m n) name (take i xs))

named_here : {X : Type 0} (name : X → ℕ) (xs : List X) (i : ℕ) (x : X) → i < length xs → name (get_or xs i x) ≡ get_or (map name xs) i 0
named_here name xs i x lt = sym (get_or-map name xs i x 0 lt)

pub things_more : {X : Type 0} (name : X → ℕ) (xs : List X) (i : ℕ) (x : X) → i < length xs → AreApart (map name (take i xs))
    → list_any (λ y. eqb (name y) (name (get_or xs i x))) (take i xs) ≡ false → AreApart (map name (take (i + 1) xs))
things_more name xs i x lt ok new =
    rw (← take-map name (i + 1) xs)
    (apart_more (map name xs) i (name (get_or xs i x)) (omega (arith, length-map xs name)) (named_here name xs i x lt) (rw (take-map name i xs) ok)
    (named_as name xs i (name (get_or xs i x)) ∙ new))

pub things_not : {X : Type 0} (name : X → ℕ) (xs : List X) (i : ℕ) (x : X) → i < length xs
    → list_any (λ y. eqb (name y) (name (get_or xs i x))) (take i xs) ≡ true → Decides false (AreApart (map name xs))
things_not name xs i x lt old = apart_not (map name xs) i (name (get_or xs i x)) (omega (arith, length-map xs name)) (named_here name xs i x lt)
    (named_as name xs i (name (get_or xs i x)) ∙ old)

pub things_done : {X : Type 0} (name : X → ℕ) (xs : List X) (i : ℕ) → length xs ≤ i → AreApart (map name (take i xs)) → Decides true (AreApart (map name xs))
things_done name xs i le ok = (λ _. rw (take_all i xs le) at ok, λ _. refl)
