-- Names that don't come twice are found at their positions.
use Rattle.std.proofs.Common.{◌≡◌, ◌≢◌, ℕ, ◌<◌, Bool, true, false, eqb, ltb, ◌||◌, List, [], ◌∷◌, ◌++◌, length, length-append, get_or, map, Some, refl, ap}
use Rattle.std.proofs.Common.{arith, All}
use Rattle.std.specs.List.{list_any, position, position_or_len}
use Rattle.std.proofs.Math.Seq.{get_or-append_seam}
use Rattle.std.proofs.lemmas.List.{get_or_append_left, get_or-map, length-map}
use Rattle.std.proofs.lemmas.List.Sums.{position_or_len_is}
use Rattle.std.proofs.lemmas.List.Folds.{list_any_none}
use Rattle.lg_model.specs.Keeping.{AreApart}

-- What holds of each element holds of this one.
pub at_seam : {X : Type 0} (P : X → Type 0) (done rest : List X) (x : X) → All P (done ++ x ∷ rest) → P x
at_seam P done rest x all =
    let here = all (length done) x (omega (arith, length-append done (x ∷ rest))) in
    rw (get_or-append_seam done x rest x) at here

pub position_is : {X : Type 0} (p : X → Bool) (xs : List X) (i : ℕ) (d : X) → i < length xs → p (get_or xs i d) ≡ true
    → ((k : ℕ) → k < i → p (get_or xs k d) ≡ false) → position p xs ≡ Some i
position_is p xs i d lt here before =
    let at : position_or_len p xs ≡ i = position_or_len_is p xs i d (omega arith) before (λ _. here) in
    let is : ltb i (length xs) ≡ true = grind arith in
    rw (at, is) refl

same : (n : ℕ) → eqb n n ≡ true
same n = grind arith

differ : (m n : ℕ) → (m ≢ n) → eqb m n ≡ false
differ m n ne = grind arith

-- A name is found at its position.
pub name_found : (names : List ℕ) (at : ℕ) → AreApart names → at < length names → position (λ m. eqb m (get_or names at 0)) names ≡ Some at
name_found names at apart lt =
    position_is (λ m. eqb m (get_or names at 0)) names at 0 lt (same (get_or names at 0))
    (λ k less. differ (get_or names k 0) (get_or names at 0) (apart k at 0 less lt))

-- The same of things that have names.
pub thing_found : {X : Type 0} (name : X → ℕ) (xs : List X) (at : ℕ) → AreApart (map name xs) → at < length xs
    → position (λ x. eqb (name x) (get_or (map name xs) at 0)) xs ≡ Some at
thing_found name [] at apart lt = absurd (omega arith)
thing_found name (y ∷ ys) at apart lt =
    let xs = y ∷ ys in
    let len = length-map xs name in
    let here : get_or (map name xs) at 0 ≡ name (get_or xs at y) = get_or-map name xs at y 0 lt in
    position_is (λ x. eqb (name x) (get_or (map name xs) at 0)) xs at y lt (rw here (same (name (get_or xs at y))))
    (λ k less.
    let there : get_or (map name xs) k 0 ≡ name (get_or xs k y) = get_or-map name xs k y 0 (omega arith) in
    rw (← there) (differ (get_or (map name xs) k 0) (get_or (map name xs) at 0) (apart k at 0 less (omega (arith, len)))))

-- No earlier name is this one.
pub name_fresh : (done rest : List ℕ) (n : ℕ) → AreApart (done ++ n ∷ rest) → list_any (λ m. eqb m n) done ≡ false
name_fresh done rest n apart = list_any_none (λ m. eqb m n) done (λ k d lt.
    let ne = apart k (length done) d lt (omega (arith, length-append done (n ∷ rest))) in
    differ (get_or done k d) n (rw (get_or_append_left done (n ∷ rest) d k lt, get_or-append_seam done n rest d) at ne))

pub list_any-map : {X Y : Type 0} (p : Y → Bool) (f : X → Y) (xs : List X) → list_any p (map f xs) ≡ list_any (λ x. p (f x)) xs
list_any-map p f [] = refl
list_any-map p f (x ∷ xs) = ap (λ (b : Bool). p (f x) || b) (list_any-map p f xs)
