-- Pieces of a file, one after the other.
use Rattle.std.proofs.Common.{◌≡◌, ℕ, zero, suc, ◌+◌, ◌-◌, List, [], ◌∷◌, ◌++◌, length, take, drop, replicate, refl, sym, ◌∙◌, ap}
use Rattle.std.proofs.Common.{arith, length-append, length-take, length-drop, take-append-drop}
use Rattle.std.proofs.lemmas.List.{take_all, take-append-le, nil_from_length, length-replicate}
use Rattle.book_file.specs.Walk.{WalkState, Fed}
use Rattle.book_file.proofs.Feeding.{fed_none, fed_then}
use Rattle.book_journal.specs.Looking.{IsFed}

take_join : (a n : ℕ) (xs : List ℕ) → take a xs ++ take n (drop a xs) ≡ take (a + n) xs
take_join zero n xs = ap (λ (k : ℕ). take k xs) (omega arith)
take_join (suc a) n [] = nil_from_length (take n []) (omega (arith, length-take {A = ℕ} n []))
    ∙ sym (nil_from_length (take (suc a + n) []) (omega
    (arith, length-take {A = ℕ} (suc a + n) [])))
take_join (suc a) n (x ∷ xs) =
    let e : suc (a + n) ≡ suc a + n = omega arith in
    ap (λ (l : List ℕ). x ∷ l) (take_join a n xs) ∙ ap (λ (k : ℕ). take k (x ∷ xs)) e

-- nothing is fed yet
pub is_fed_none : (honest : Type 0) (seen : List ℕ) (w : WalkState) → IsFed honest seen w w
is_fed_none honest seen w = record { bytes = []; held = λ h. refl; fed = fed_none w }

-- one piece more
pub is_fed_then : (honest : Type 0) (seen : List ℕ) (a b c : WalkState) (at : ℕ) (y : List ℕ) → a.fed ≡ 0 → b.fed ≡ at
    → IsFed honest seen a b
    → Fed b c y → (honest → y ≡ take (length y) (drop at seen)) → IsFed honest seen a c
is_fed_then honest seen a b c at y start place p q more = record {
  bytes = p.bytes ++ y;
  held = λ h.
      let long : length p.bytes ≡ at = omega (arith, p.fed.fed, start, place) in
      (λ i. p.held h i ++ more h i)
      ∙ ap (λ (n : ℕ). take n seen ++ take (length y) (drop at seen)) long
      ∙ take_join at (length y) seen
      ∙ ap (λ (n : ℕ). take n seen) (omega (arith, long, length-append p.bytes y));
  fed = fed_then a b c p.bytes y p.fed q;
}

-- ---- the bytes of a file that were not fed: what a read gives, and zeros where it gives fewer

pub rest_of : (fed len : ℕ) → List ℕ → List ℕ
rest_of fed len seen = take (len - fed) (drop fed seen ++ replicate (len - fed) 0)

pub rest_len : (fed len : ℕ) (seen : List ℕ) → length (rest_of fed len seen) ≡ len - fed
unfolding rest_of
rest_len fed len seen = omega (
  arith,
  length-take (len - fed) (drop fed seen ++ replicate (len - fed) 0),
  length-append (drop fed seen) (replicate
      (len - fed) 0),
  length-replicate {A = ℕ} (len - fed) 0,
)

pub whole_file : (bytes seen : List ℕ) (len : ℕ) → len ≡ length seen → bytes ≡ take (length bytes) seen
    → bytes ++ rest_of (length bytes) len seen ≡ seen
unfolding rest_of
whole_file bytes seen len long front =
    let n = length bytes in
    let size : len - n ≡ length (drop n seen) = omega (arith, long, length-drop n seen) in
    ap (λ (l : List ℕ). bytes ++ l) (take-append-le (len - n) (drop n seen) (replicate (len - n) 0) (omega (arith, size))
    ∙ take_all (len - n)
    (drop n seen) (omega (arith, size)))
    ∙ ap (λ (l : List ℕ). l ++ drop n seen) front
    ∙ take-append-drop n seen
