-- Fronts of equal bytes.
use Rattle.std.proofs.Common.{◌≡◌, ℕ, ◌<◌, ◌^◌, List, [], ◌∷◌, ◌++◌, length, refl, sym, ◌∙◌, ap, arith}
use Rattle.std.proofs.lemmas.Nat.{from_be_bytes-to_be_bytes_2, from_be_bytes-to_be_bytes_4}
use Rattle.std.specs.Int.{w16, w32, to_be_bytes, from_be_bytes}

pub same_split : {X : Type 0} (a b x y : List X) → length a ≡ length b → a ++ x ≡ b ++ y → (a ≡ b) × (x ≡ y)
same_split [] [] x y long same = (refl, same)
same_split [] (d ∷ b) x y long same = absurd (omega (arith, long))
same_split (c ∷ a) [] x y long same = absurd (omega (arith, long))
same_split (c ∷ a) (d ∷ b) x y long same =
    let head : c ≡ d = cc in
    let tail : a ++ x ≡ b ++ y = cc in
    let size : length a ≡ length b = omega (arith, long) in
    let rest = same_split a b x y size tail in
    ((λ i. head i ∷ rest.0 i), rest.1)

pub same_2 : (m n : ℕ) → m < 2 ^ 16 → n < 2 ^ 16 → to_be_bytes w16 m ≡ to_be_bytes w16 n → m ≡ n
same_2 m n small_m small_n same = sym (from_be_bytes-to_be_bytes_2 m small_m) ∙ ap (λ (bs : List ℕ). from_be_bytes w16 bs) same
    ∙ from_be_bytes-to_be_bytes_2 n small_n

pub same_4 : (m n : ℕ) → m < 2 ^ 32 → n < 2 ^ 32 → to_be_bytes w32 m ≡ to_be_bytes w32 n → m ≡ n
same_4 m n small_m small_n same = sym (from_be_bytes-to_be_bytes_4 m small_m) ∙ ap (λ (bs : List ℕ). from_be_bytes w32 bs) same
    ∙ from_be_bytes-to_be_bytes_4 n small_n

pub front_2 : (m n : ℕ) (x y : List ℕ) → m < 2 ^ 16 → n < 2 ^ 16 → to_be_bytes w16 m ++ x ≡ to_be_bytes w16 n ++ y → (m ≡ n) × (x ≡ y)
front_2 m n x y small_m small_n same =
    let parts = same_split (to_be_bytes w16 m) (to_be_bytes w16 n) x y refl same in
    (same_2 m n small_m small_n parts.0, parts.1)

pub front_4 : (m n : ℕ) (x y : List ℕ) → m < 2 ^ 32 → n < 2 ^ 32 → to_be_bytes w32 m ++ x ≡ to_be_bytes w32 n ++ y → (m ≡ n) × (x ≡ y)
front_4 m n x y small_m small_n same =
    let parts = same_split (to_be_bytes w32 m) (to_be_bytes w32 n) x y refl same in
    (same_4 m n small_m small_n parts.0, parts.1)
