-- Sums over all passes.
use Rattle.std.proofs.Common.{◌≡◌, ℕ, zero, suc, ◌+◌, ◌*◌, ◌≤◌, List, [], ◌∷◌, ◌++◌, set, refl, ap, sym, subst, arith, add-mul}
use mathlib.Core.Option.{some, some-injective, some-ne-none}
use lib.ListN.{get_elem?}
use Rattle.lock_rule.specs.declared.view.View.{View}
use Rattle.lock_rule.specs.Views.{total}

pub total_set : (f : View → ℕ) (vs : List View) (i : ℕ) (v w : View) → get_elem? vs i ≡ some v → total f (set vs i w) + f v ≡ total f vs + f w
total_set f [] i v w e = absurd (some-ne-none v (sym e))
total_set f (x ∷ xs) zero v w e = let a : f x ≡ f v = ap f (some-injective x v e) in omega arith
total_set f (x ∷ xs) (suc i) v w e = let a = total_set f xs i v w e in omega arith

pub total_more : (f : View → ℕ) (vs : List View) (w : View) → total f (vs ++ w ∷ []) ≡ total f vs + f w
total_more f [] w = omega arith
total_more f (x ∷ xs) w = let a = total_more f xs w in omega arith

pub total_one : (f : View → ℕ) (vs : List View) (i : ℕ) (v : View) → get_elem? vs i ≡ some v → f v ≤ total f vs
total_one f [] i v e = absurd (some-ne-none v (sym e))
total_one f (x ∷ xs) zero v e = let a : f x ≡ f v = ap f (some-injective x v e) in omega arith
total_one f (x ∷ xs) (suc i) v e = let a = total_one f xs i v e in omega arith

pub total_two : (f : View → ℕ) (vs : List View) (i j : ℕ) (v w : View) → (i ≡ j → ⊥) → get_elem? vs i ≡ some v → get_elem? vs j ≡ some w
    → f v + f w ≤ total f vs
total_two f [] i j v w n e d = absurd (some-ne-none v (sym e))
total_two f (x ∷ xs) zero zero v w n e d = absurd (n refl)
total_two f (x ∷ xs) zero (suc j) v w n e d = let a : f x ≡ f v = ap f (some-injective x v e) in let b = total_one f xs j w d in omega arith
total_two f (x ∷ xs) (suc i) zero v w n e d = let a : f x ≡ f w = ap f (some-injective x w d) in let b = total_one f xs i v e in omega arith
total_two f (x ∷ xs) (suc i) (suc j) v w n e d = let a = total_two f xs i j v w (λ k. n (ap suc k)) e d in omega arith

pub total_bound : (f g : View → ℕ) (n : ℕ) (vs : List View) → ((j : ℕ) (v : View) → get_elem? vs j ≡ some v → f v ≤ g v * n)
    → total f vs ≤ total g vs * n
total_bound f g n [] each = omega arith
total_bound f g n (x ∷ xs) each =
    let a : f x ≤ g x * n = each 0 x refl in
    let b : total f xs ≤ total g xs * n = total_bound f g n xs (λ j v e. each (suc j) v e) in
    let c : (g x + total g xs) * n ≡ g x * n + total g xs * n = add-mul (g x) (total g xs) n in
    let p : ℕ = g x * n in let q : ℕ = total g xs * n in
    let a' : f x ≤ p = a in let b' : total f xs ≤ q = b in let c' : (g x + total g xs) * n ≡ p + q = c in
    subst (λ (z : ℕ). f x + total f xs ≤ z) (sym c') (omega arith)
