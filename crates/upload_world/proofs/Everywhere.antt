-- What holds of each element of a list, and what is found in a list that was changed.
use Rattle.std.specs.Prelude.{◌≡◌, ℕ, zero, suc, ◌<◌, Bool, true, false, List, [], ◌∷◌, ◌++◌, map, length, slice_get, slice_set, slice_index_or, Option, Some}
use Rattle.std.specs.List.{AllByRecursion}
use Rattle.std.specs.Option.{option_and_then, option_map_or}
use Rattle.std.proofs.Common.{refl, sym, ap, subst, ◌∙◌, arith}

module _ {X : Type 0} where
  pub all_set : (P : X → Type 0) (xs : List X) (i : ℕ) (y : X) → AllByRecursion P xs → P y → AllByRecursion P (slice_set xs i y)
  all_set P [] i y all new = tt
  all_set P (x ∷ xs) zero y all new = (new, all.1)
  all_set P (x ∷ xs) (suc i) y all new = (all.0, all_set P xs i y all.1 new)

  pub all_push : (P : X → Type 0) (xs : List X) (y : X) → AllByRecursion P xs → P y → AllByRecursion P (xs ++ y ∷ [])
  all_push P [] y all new = (new, tt)
  all_push P (x ∷ xs) y all new = (all.0, all_push P xs y all.1 new)

  pub all_get : (P : X → Type 0) (xs : List X) (i : ℕ) (x : X) → AllByRecursion P xs → slice_get xs i ≡ Some x → P x
  all_get P [] i x all is = absurd (cc)
  all_get P (y ∷ ys) zero x all is = let e : y ≡ x = cc in subst P e all.0
  all_get P (y ∷ ys) (suc i) x all is = all_get P ys i x all.1 is

  pub all_weaker : (P Q : X → Type 0) (xs : List X) → ((x : X) → P x → Q x) → AllByRecursion P xs → AllByRecursion Q xs
  all_weaker P Q [] goes all = tt
  all_weaker P Q (x ∷ xs) goes all = (goes x all.0, all_weaker P Q xs goes all.1)

  pub all_from : (P : X → Type 0) (xs : List X) → ((k : ℕ) (d : X) → k < length xs → P (slice_index_or xs k d)) → AllByRecursion P xs
  all_from P [] each = tt
  all_from P (x ∷ xs) each = (each 0 x (omega arith), all_from P xs (λ k d lt. each (suc k) d (omega arith)))

  -- an element is replaced by one that h cannot tell from it
  pub map_set : {Y : Type 0} (h : X → Y) (xs : List X) (i : ℕ) (x y : X) → slice_get xs i ≡ Some x → h y ≡ h x → map h (slice_set xs i y) ≡ map h xs
  map_set h [] i x y is same = refl
  map_set h (z ∷ xs) zero x y is same = let e : z ≡ x = cc in (λ j. (same ∙ ap h (sym e)) j ∷ map h xs)
  map_set h (z ∷ xs) (suc i) x y is same = ap (λ r. h z ∷ r) (map_set h xs i x y is same)

  pub found_set : {Y : Type 0} (h : X → Option Y) (xs : List X) (i at : ℕ) (x y : X) → slice_get xs i ≡ Some x → h y ≡ h x →
      option_and_then h (slice_get (slice_set xs i y) at) ≡ option_and_then h (slice_get xs at)
  found_set h [] i at x y is same = refl
  found_set h (z ∷ xs) zero zero x y is same = let e : z ≡ x = cc in same ∙ ap h (sym e)
  found_set h (z ∷ xs) zero (suc at) x y is same = refl
  found_set h (z ∷ xs) (suc i) zero x y is same = refl
  found_set h (z ∷ xs) (suc i) (suc at) x y is same = found_set h xs i at x y is same

  -- an element is replaced by one that passes where it did
  pub passes_set : (p : X → Bool) (xs : List X) (i at : ℕ) (x y : X) → slice_get xs i ≡ Some x → (p x ≡ true → p y ≡ true) →
      option_map_or p (slice_get xs at) false ≡ true →
      option_map_or p (slice_get (slice_set xs i y) at) false ≡ true
  passes_set p [] i at x y is goes had = had
  passes_set p (z ∷ xs) zero zero x y is goes had = let e : z ≡ x = cc in goes (ap p (sym e) ∙ had)
  passes_set p (z ∷ xs) zero (suc at) x y is goes had = had
  passes_set p (z ∷ xs) (suc i) zero x y is goes had = had
  passes_set p (z ∷ xs) (suc i) (suc at) x y is goes had = passes_set p xs i at x y is goes had

  -- the same where all elements are replaced
  pub map_map : {Y : Type 0} (h : X → Y) (g : X → X) (xs : List X) → ((x : X) → h (g x) ≡ h x) → map h (map g xs) ≡ map h xs
  map_map h g [] same = refl
  map_map h g (x ∷ xs) same = λ i. same x i ∷ map_map h g xs same i

  pub found_map : {Y : Type 0} (h : X → Option Y) (g : X → X) (xs : List X) (at : ℕ) → ((x : X) → h (g x) ≡ h x) →
      option_and_then h (slice_get (map g xs) at) ≡ option_and_then h (slice_get xs at)
  found_map h g [] at same = refl
  found_map h g (x ∷ xs) zero same = same x
  found_map h g (x ∷ xs) (suc at) same = found_map h g xs at same

  pub passes_map : (p : X → Bool) (g : X → X) (xs : List X) (at : ℕ) → ((x : X) → p x ≡ true → p (g x) ≡ true) →
      option_map_or p (slice_get xs at) false ≡ true →
      option_map_or p (slice_get (map g xs) at) false ≡ true
  passes_map p g [] at goes had = had
  passes_map p g (x ∷ xs) zero goes had = goes x had
  passes_map p g (x ∷ xs) (suc at) goes had = passes_map p g xs at goes had
