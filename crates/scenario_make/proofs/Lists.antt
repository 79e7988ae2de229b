-- Lists that are made of numbers in a row.
use Rattle.std.specs.Prelude.{◌≡◌, ℕ, ◌+◌, ◌*◌, ◌≤◌, List, [], ◌∷◌, ◌++◌, length, All, map, sum_by}
use Rattle.std.specs.List.{flat_map, range_with_len}
use Rattle.std.proofs.Common.{zero, suc, refl, sym, ap, ◌∙◌, arith, append_assoc}
use Rattle.std.proofs.lemmas.List.{append-nil}
use Rattle.std.proofs.lemmas.List.Concat.{length-flat_map, flat_map-append}
use Rattle.std.proofs.lemmas.List.Elements.{All-nil, All-cons, All-append}
use Rattle.std.proofs.lemmas.List.FromFn.{map-range_with_len_more}
use Rattle.std.proofs.lemmas.List.Sums.{sum_by-append, sum_by-le}
use Rattle.scenario_make.specs.Generator.{flow_names}

-- What holds of each of the eight flows holds of all.
pub of_each_flow : (P : ℕ → Type 0) → P 1 → P 2 → P 3 → P 4 → P 5 → P 6 → P 7 → P 8 → All P flow_names
of_each_flow P a b c d e f g h =
    All-cons P 1 (2 ∷ 3 ∷ 4 ∷ 5 ∷ 6 ∷ 7 ∷ 8 ∷ []) a
    (All-cons P 2 (3 ∷ 4 ∷ 5 ∷ 6 ∷ 7 ∷ 8 ∷ []) b
    (All-cons P 3 (4 ∷ 5 ∷ 6 ∷ 7 ∷ 8 ∷ []) c
    (All-cons P 4 (5 ∷ 6 ∷ 7 ∷ 8 ∷ []) d
    (All-cons P 5 (6 ∷ 7 ∷ 8 ∷ []) e
    (All-cons P 6 (7 ∷ 8 ∷ []) f
    (All-cons P 7 (8 ∷ []) g
    (All-cons P 8 [] h (All-nil P))))))))

-- One more of what is made of the numbers from 1 on.
pub one_more : {X : Type 0} (f : ℕ → X) (n : ℕ) (front old new : List X) (x : X) → old ≡ front ++ map f (range_with_len 1 n) → x ≡ f (n + 1) →
    new ≡ old ++ x ∷ [] → new ≡ front ++ map f (range_with_len 1 (n + 1))
one_more f n front old new x were is more =
    let all = map-range_with_len_more f 1 n (n + 1) (omega arith) in
    more ∙ ap (λ y. old ++ y ∷ []) is ∙ ap (λ ys. ys ++ f (n + 1) ∷ []) were ∙ append_assoc front (map f (range_with_len 1 n)) (f (n + 1) ∷ [])
    ∙ ap (λ ys. front ++ ys) (sym all)

-- One more number in a row.
pub range_more : (n : ℕ) → range_with_len 0 (n + 1) ≡ range_with_len 0 n ++ n ∷ []
range_more n = sym (same 0 (n + 1)) ∙ map-range_with_len_more (λ (k : ℕ). k) 0 n n (omega arith) ∙ ap (λ xs. xs ++ n ∷ []) (same 0 n)
  where
    same : (a n : ℕ) → map (λ (k : ℕ). k) (range_with_len a n) ≡ range_with_len a n
    same a zero = refl
    same a (suc n) = ap (λ xs. a ∷ xs) (same (a + 1) n)

-- The pieces of one more number.
pub pieces_more : {X : Type 0} (f : ℕ → List X) (n : ℕ) → flat_map f (range_with_len 0 (n + 1)) ≡ flat_map f (range_with_len 0 n) ++ f n
pieces_more f n =
    ap (flat_map f) (range_more n) ∙ flat_map-append f (range_with_len 0 n) (n ∷ []) ∙ ap (λ xs. flat_map f (range_with_len 0 n) ++ xs) (append-nil (f n))

pub of_all_pieces : {X A : Type 0} (P : A → Type 0) (f : X → List A) (xs : List X) → ((x : X) → All P (f x)) → All P (flat_map f xs)
of_all_pieces P f [] each = All-nil P
of_all_pieces P f (x ∷ xs) each = All-append P (f x) (flat_map f xs) (each x) (of_all_pieces P f xs each)

pub length_of_pieces : {X A : Type 0} (f : X → List A) (most : ℕ) (xs : List X) → ((x : X) → length (f x) ≤ most) → length (flat_map f xs) ≤ length xs * most
length_of_pieces f most xs each = omega (arith, length-flat_map f xs, sum_by-le (λ x. length (f x)) most xs (λ k d lt. each _))

pub sum_of_pieces : {X A : Type 0} (g : A → ℕ) (f : X → List A) (one : ℕ) (xs : List X) → ((x : X) → sum_by g (f x) ≡ one) →
    sum_by g (flat_map f xs) ≡ length xs * one
sum_of_pieces g f one [] each = omega arith
sum_of_pieces g f one (x ∷ xs) each = omega (arith, sum_by-append g (f x) (flat_map f xs), each x, sum_of_pieces g f one xs each)
