-- Beginnings of one list, and the entries of one number in them.
use Rattle.std.proofs.Common.{◌≡◌, ℕ, ◌≤◌, ◌==◌, nat_lt, cond, Bool, true, false, List, [], ◌∷◌, ◌++◌, length, filter, refl, ap, sym, ◌∙◌, subst, arith, append_assoc, append-nil, length-append, ne_eqb, ltb-true, ltb-false}
use mathlib.Core.List.{IsPrefix}
use Rattle.column_book.specs.declared.entry.Entry.{Entry}
use Rattle.lock_rule.specs.Views.{of, longer}

module _ {A : Type 0} where
  pub prefix_self : (xs : List A) → IsPrefix xs xs
  prefix_self xs = ([], append-nil xs)

  pub prefix_trans : (xs ys zs : List A) → IsPrefix xs ys → IsPrefix ys zs → IsPrefix xs zs
  prefix_trans xs ys zs p q = (p.0 ++ q.0, sym (append_assoc xs p.0 q.0) ∙ (ap (λ (w : List A). w ++ q.0) p.1 ∙ q.1))

  pub prefix_shorter : (xs ys zs : List A) → IsPrefix xs zs → IsPrefix ys zs → length xs ≤ length ys → IsPrefix xs ys
  prefix_shorter [] ys zs p q le = (ys, refl)
  prefix_shorter (x ∷ xs) [] zs p q le = absurd (omega arith)
  prefix_shorter (x ∷ xs) (y ∷ ys) [] p q le = absurd (cc (p.1))
  prefix_shorter (x ∷ xs) (y ∷ ys) (z ∷ zs) p q le =
      let heads : x ≡ y = cc (p.1, q.1) in
      let rest = prefix_shorter xs ys zs (p.0, cc (p.1)) (q.0, cc (q.1)) (omega arith) in
      (rest.0, cc (heads, rest.1))

  pub prefix_whole : (xs ys : List A) → IsPrefix xs ys → length ys ≤ length xs → xs ≡ ys
  prefix_whole [] [] p le = refl
  prefix_whole [] (y ∷ ys) p le = absurd (omega arith)
  prefix_whole (x ∷ xs) [] p le = absurd (cc (p.1))
  prefix_whole (x ∷ xs) (y ∷ ys) p le =
      let rest = prefix_whole xs ys (p.0, cc (p.1)) (omega arith) in cc (p.1, rest)

  pub prefix_length : (xs ys : List A) → IsPrefix xs ys → length xs ≤ length ys
  prefix_length xs ys p = omega (arith, sym (ap length p.1) ∙ length-append xs p.0)

  pub filter_more : (test : A → Bool) (xs ys : List A) → filter test (xs ++ ys) ≡ filter test xs ++ filter test ys
  filter_more test [] ys = refl
  filter_more test (x ∷ xs) ys = step (test x) (filter_more test xs ys)
    where
      step : (b : Bool) → filter test (xs ++ ys) ≡ filter test xs ++ filter test ys
          → cond b (x ∷ filter test (xs ++ ys)) (filter test (xs ++ ys)) ≡ cond b (x ∷ filter test xs) (filter test xs) ++ filter test ys
      step true e = ap (λ (zs : List A). x ∷ zs) e
      step false e = e

  empty_middle : (xs ys zs : List A) → (xs ++ ys) ++ zs ≡ xs → ys ≡ []
  empty_middle xs [] zs e = refl
  empty_middle xs (y ∷ ys) zs e =
      absurd (omega (arith, ap length e, length-append (xs ++ y ∷ ys) zs, length-append xs (y ∷ ys)))

pub of_more : (n : ℕ) (es ds : List Entry) → of n (es ++ ds) ≡ of n es ++ of n ds
of_more n es ds = filter_more (λ (e : Entry). e.pass == n) es ds

-- an entry of another number
pub of_other : (n : ℕ) (es : List Entry) (e : Entry) → (e.pass ≡ n → ⊥) → of n (es ++ e ∷ []) ≡ of n es
of_other n es e other = of_more n es (e ∷ []) ∙ (ap (λ (b : Bool). of n es ++ cond b (e ∷ []) []) (ne_eqb e.pass n other) ∙ append-nil (of n es))

-- between two lists with the same entries of a number
pub of_between : (n : ℕ) (xs ys zs : List Entry) → IsPrefix xs ys → IsPrefix ys zs → of n zs ≡ of n xs → of n ys ≡ of n xs
of_between n xs ys zs p q e =
    let long : of n zs ≡ (of n xs ++ of n p.0) ++ of n q.0 =
    ap (of n) (sym q.1) ∙ (of_more n ys q.0 ∙ ap (λ (w : List Entry). w ++ of n q.0) (ap (of n) (sym p.1) ∙ of_more n xs p.0)) in
    let none : of n p.0 ≡ [] = empty_middle (of n xs) (of n p.0) (of n q.0) (sym long ∙ e) in
    ap (of n) (sym p.1) ∙ (of_more n xs p.0 ∙ (ap (λ (w : List Entry). of n xs ++ w) none ∙ append-nil (of n xs)))

-- the longer of two beginnings
pub record Longest (xs ys zs : List Entry) : Type 0 where
  pub first : IsPrefix xs (longer xs ys)
  pub second : IsPrefix ys (longer xs ys)
  pub whole : IsPrefix (longer xs ys) zs

pub longest : (xs ys zs : List Entry) → IsPrefix xs zs → IsPrefix ys zs → Longest xs ys zs
longest xs ys zs p q = step (nat_lt (length xs) (length ys)) refl
  where
    step : (b : Bool) → nat_lt (length xs) (length ys) ≡ b → Longest xs ys zs
    step true e =
        let is : longer xs ys ≡ ys = ap (λ (b : Bool). cond b ys xs) e in
        let less = ltb-true (length xs) (length ys) e in record {
          first = subst (IsPrefix xs) (sym is) (prefix_shorter xs ys zs p q (omega arith));
          second = subst (IsPrefix ys) (sym is) (prefix_self ys);
          whole = subst (λ (w : List Entry). IsPrefix w zs) (sym is) q;
        }
    step false e =
        let is : longer xs ys ≡ xs = ap (λ (b : Bool). cond b ys xs) e in
        let less = ltb-false (length xs) (length ys) e in record {
          first = subst (IsPrefix xs) (sym is) (prefix_self xs);
          second = subst (IsPrefix ys) (sym is) (prefix_shorter ys xs zs q p less);
          whole = subst (λ (w : List Entry). IsPrefix w zs) (sym is) p;
        }
