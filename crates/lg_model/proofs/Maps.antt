-- Finite maps as lists in the order of their keys: what an insertion leaves at a key, and that what is found tells the map.
use Rattle.std.specs.Prelude.{◌≡◌, ℕ, ◌+◌, ◌≤◌, List, [], ◌∷◌, length, Bool, true, false, cond, Option, Some, None}
use Rattle.std.specs.Ordering.{match_ordering, is_eq, ordering_reverse}
use Rattle.std.specs.declared.cmp.Ordering.{Ordering}
use Rattle.std.specs.declared.cmp.Ordering.TheVariants.{Less, Equal, Greater}
use Rattle.std.specs.Cmp.{IsTotalOrder, alike_right, tied_back, tied_itself}
use Rattle.std.specs.BTreeMap.{insert_entry, is_at}
use Rattle.std.specs.Map.{lookup}
use Rattle.std.proofs.Common.{refl, sym, ap, ◌∙◌, arith}

abbrev rank : Ordering → ℕ
rank Less = 0
rank Equal = 1
rank Greater = 2

unlike : (a b : Ordering) → (rank a ≡ rank b → ⊥) → a ≡ b → ⊥
unlike a b far same = far (ap rank same)

module _ {K X : Type 0} (R : K → K → Ordering) where
  -- what is found under a key
  abbrev pub at : List (K × X) → K → Option X
  at es q = lookup (is_at (R q)) es

  -- the key is below all of these
  abbrev pub Above : K → List (K × X) → Type 0
  Above k [] = Unit {0}
  Above k (e ∷ es) = (R k e.0 ≡ Less) × Above k es

  -- the keys rise
  abbrev pub InOrder : List (K × X) → Type 0
  InOrder [] = Unit {0}
  InOrder (e ∷ es) = Above e.0 es × InOrder es

  -- under each key of the one, the other has something too
  abbrev pub HasKeys : List (K × X) → List (K × X) → Type 0
  HasKeys m n = (q : K) (v : X) → at m q ≡ Some v → (u : X) × (at n q ≡ Some u)

  -- what the one has, the other has too
  abbrev pub Within : List (K × X) → List (K × X) → Type 0
  Within m n = (q : K) (v : X) → at m q ≡ Some v → at n q ≡ Some v

turn : {K : Type 0} {R : K → K → Ordering} (o : IsTotalOrder R) (a b : K) → R a b ≡ Greater → R b a ≡ Less
turn o a b p = o.antisymm b a ∙ ap ordering_reverse p

module _ {K X : Type 0} {R : K → K → Ordering} (o : IsTotalOrder R) where
  twice : (b : Bool) (v u : X) (rest : Option X) → cond b (Some v) rest ≡ cond b (Some v) (cond b (Some u) rest)
  twice true v u rest = refl
  twice false v u rest = refl

  turned : (a b : Ordering) (v u : X) (rest : Option X) → (a ≡ Equal → b ≡ Equal → ⊥) → cond (is_eq a) (Some u) (cond (is_eq b) (Some v) rest) ≡ cond (is_eq b) (Some v) (cond (is_eq a) (Some u) rest)
  turned Less b v u rest far = refl
  turned Greater b v u rest far = refl
  turned Equal Less v u rest far = refl
  turned Equal Greater v u rest far = refl
  turned Equal Equal v u rest far = absurd (far refl refl)

  -- what is found after an insertion
  pub found_after : (es : List (K × X)) (k : K) (v : X) (q : K) → at R (insert_entry R es k v) q ≡ cond (is_eq (R q k)) (Some v) (at R es q)
  found_after [] k v q = refl
  found_after (e ∷ es) k v q = by (R k e.0) refl (found_after es k v q)
    where
      by : (r : Ordering) → R k e.0 ≡ r → at R (insert_entry R es k v) q ≡ cond (is_eq (R q k)) (Some v) (at R es q)
          → at R (match_ordering r ((k, v) ∷ e ∷ es) ((e.0, v) ∷ es) (e ∷ insert_entry R es k v)) q ≡ cond (is_eq (R q k)) (Some v) (cond (is_eq (R q e.0)) (Some e.1) (at R es q))
      by Less p rest = refl
      by Equal p rest =
          twice (is_eq (R q e.0)) v e.1 (at R es q)
          ∙ ap (λ (x : Ordering). cond (is_eq x) (Some v) (cond (is_eq (R q e.0)) (Some e.1) (at R es q))) (sym (alike_right o k e.0 q p))
      by Greater p rest =
          ap (λ (x : Option X). cond (is_eq (R q e.0)) (Some e.1) x) rest
          ∙ turned (R q e.0) (R q k) v e.1 (at R es q) (λ a b. unlike Greater Equal (λ n. absurd (omega (arith, n))) (sym p ∙ sym (o.congr q k e.0 b) ∙ a))

  above_more : (q k : K) (v : X) (es : List (K × X)) → R q k ≡ Less → Above R q es → Above R q (insert_entry R es k v)
  above_more q k v [] low all = (low, tt)
  above_more q k v (e ∷ es) low all = by (R k e.0) (above_more q k v es low all.1)
    where
      by : (r : Ordering) → Above R q (insert_entry R es k v) → Above R q (match_ordering r ((k, v) ∷ e ∷ es) ((e.0, v) ∷ es) (e ∷ insert_entry R es k v))
      by Less rest = (low, all)
      by Equal rest = all
      by Greater rest = (all.0, rest)

  above_below : (q k : K) (es : List (K × X)) → R q k ≡ Less → Above R k es → Above R q es
  above_below q k [] low all = tt
  above_below q k (e ∷ es) low all = (o.trans q k e.0 low all.0, above_below q k es low all.1)

  -- a map stays in order
  pub in_order_after : (es : List (K × X)) (k : K) (v : X) → InOrder R es → InOrder R (insert_entry R es k v)
  in_order_after [] k v s = (tt, tt)
  in_order_after (e ∷ es) k v s = by (R k e.0) refl (in_order_after es k v s.1)
    where
      by : (r : Ordering) → R k e.0 ≡ r → InOrder R (insert_entry R es k v) → InOrder R (match_ordering r ((k, v) ∷ e ∷ es) ((e.0, v) ∷ es) (e ∷ insert_entry R es k v))
      by Less p rest = ((p, above_below k e.0 es p s.0), s)
      by Equal p rest = s
      by Greater p rest = (above_more e.0 k v es (o.antisymm e.0 k ∙ ap ordering_reverse p) s.0, rest)

  -- nothing is found under a key below all
  pub none_below : (q : K) (es : List (K × X)) → Above R q es → at R es q ≡ None
  none_below q [] all = refl
  none_below q (e ∷ es) all = ap (λ (r : Ordering). cond (is_eq r) (Some e.1) (at R es q)) all.0 ∙ none_below q es all.1

  none_some : (v : X) → None ≡ Some v → ⊥
  none_some v e = absurd (cc e)

  some_of : (v u : X) → Some v ≡ Some u → v ≡ u
  some_of v u e = cc e

  -- keys that tie find the same
  pub same_found : (es : List (K × X)) (q k : K) → R q k ≡ Equal → at R es q ≡ at R es k
  same_found [] q k p = refl
  same_found (x ∷ xs) q k p =
      ap (λ (r : Ordering). cond (is_eq r) (Some x.1) (at R xs q)) (o.congr q k x.0 p) ∙ ap (λ (z : Option X). cond (is_eq (R k x.0)) (Some x.1) z) (same_found xs q k p)

  -- what is found in the rest isn't the head's
  not_head : (e : K × X) (es : List (K × X)) (q : K) (v : X) → Above R e.0 es → at R es q ≡ Some v → R q e.0 ≡ Equal → ⊥
  not_head e es q v all h p = none_some v (sym (none_below e.0 es all) ∙ sym (same_found es q e.0 p) ∙ h)

  past_head : (e : K × X) (es : List (K × X)) (q : K) (v : X) → Above R e.0 es → at R es q ≡ Some v → at R (e ∷ es) q ≡ Some v
  past_head e es q v all h = by (R q e.0) refl
    where
      by : (r : Ordering) → R q e.0 ≡ r → cond (is_eq r) (Some e.1) (at R es q) ≡ Some v
      by Less p = h
      by Greater p = h
      by Equal p = absurd (not_head e es q v all h p)

  -- what is found in the whole, and isn't the head's, is found in the rest
  after_head : (e : K × X) (es : List (K × X)) (q : K) (v : X) → (R q e.0 ≡ Equal → ⊥) → at R (e ∷ es) q ≡ Some v → at R es q ≡ Some v
  after_head e es q v far h = by (R q e.0) refl h
    where
      by : (r : Ordering) → R q e.0 ≡ r → cond (is_eq r) (Some e.1) (at R es q) ≡ Some v → at R es q ≡ Some v
      by Less p g = g
      by Greater p g = g
      by Equal p g = absurd (far p)

  own_head : (e : K × X) (es : List (K × X)) → at R (e ∷ es) e.0 ≡ Some e.1
  own_head e es = ap (λ (r : Ordering). cond (is_eq r) (Some e.1) (at R es e.0)) (tied_itself o e.0)

  head_of : (e : K × X) (es : List (K × X)) (q : K) (v : X) → R q e.0 ≡ Equal → at R (e ∷ es) q ≡ Some v → e.1 ≡ v
  head_of e es q v p h = some_of e.1 v (sym (own_head e es) ∙ sym (same_found (e ∷ es) q e.0 p) ∙ h)

  -- the rests of two maps whose first keys tie
  within_rest : (e d : K × X) (m n : List (K × X)) → Above R e.0 m → R e.0 d.0 ≡ Equal → Within R (e ∷ m) (d ∷ n) → Within R m n
  within_rest e d m n low p all q v h = after_head d n q v (λ tie. not_head e m q v low h (alike_right o e.0 d.0 q p ∙ tie)) (all q v (past_head e m q v low h))

  -- a map within another, whose first key is below it, is within the rest
  within_later : (d : K × X) (m n : List (K × X)) → Above R d.0 m → Within R m (d ∷ n) → Within R m n
  within_later d m n low all q v h = after_head d n q v (λ tie. none_some v (sym (none_below d.0 m low) ∙ sym (same_found m q d.0 tie) ∙ h)) (all q v h)

  keys_rest : (e d : K × X) (m n : List (K × X)) → Above R e.0 m → R e.0 d.0 ≡ Equal → HasKeys R (e ∷ m) (d ∷ n) → HasKeys R m n
  keys_rest e d m n low p all q v h =
      let r = all q v (past_head e m q v low h) in
      (r.0, after_head d n q r.0 (λ tie. not_head e m q v low h (alike_right o e.0 d.0 q p ∙ tie)) r.1)

  keys_later : (d : K × X) (m n : List (K × X)) → Above R d.0 m → HasKeys R m (d ∷ n) → HasKeys R m n
  keys_later d m n low all q v h =
      let r = all q v h in
      (r.0, after_head d n q r.0 (λ tie. none_some v (sym (none_below d.0 m low) ∙ sym (same_found m q d.0 tie) ∙ h)) r.1)

  -- a map all of whose keys are in another is no longer than it
  pub no_longer : (m n : List (K × X)) → InOrder R m → InOrder R n → HasKeys R m n → length m ≤ length n
  no_longer [] n s t all = omega arith
  no_longer (e ∷ m) [] s t all = let r = all e.0 e.1 (own_head e m) in absurd (none_some r.0 r.1)
  no_longer (e ∷ m) (d ∷ n) s t all = by (R e.0 d.0) refl (λ w. no_longer m n s.1 t.1 w) (λ w. no_longer (e ∷ m) n s t.1 w)
    where
      by : (r : Ordering) → R e.0 d.0 ≡ r → (HasKeys R m n → length m ≤ length n) → (HasKeys R (e ∷ m) n → length (e ∷ m) ≤ length n) → length (e ∷ m) ≤ length (d ∷ n)
      by Less p both later = let r = all e.0 e.1 (own_head e m) in absurd (none_some r.0 (sym (none_below e.0 (d ∷ n) (p, above_below e.0 d.0 n p t.0)) ∙ r.1))
      by Equal p both later = let rest = both (keys_rest e d m n s.0 p all) in omega (arith, rest)
      by Greater p both later =
          let low = turn o e.0 d.0 p in
          let rest = later (keys_later d (e ∷ m) n (low, above_below d.0 e.0 m low s.0) all) in omega (arith, rest)

  -- a new key makes a map longer by one
  pub length-insert_new : (es : List (K × X)) (k : K) (v : X) → at R es k ≡ None → length (insert_entry R es k v) ≡ length es + 1
  length-insert_new [] k v none = refl
  length-insert_new (e ∷ es) k v none = by (R k e.0) refl (λ w. length-insert_new es k v w) none
    where
      by : (r : Ordering) → R k e.0 ≡ r → (at R es k ≡ None → length (insert_entry R es k v) ≡ length es + 1) → cond (is_eq r) (Some e.1) (at R es k) ≡ None
          → length (match_ordering r ((k, v) ∷ e ∷ es) ((e.0, v) ∷ es) (e ∷ insert_entry R es k v)) ≡ length (e ∷ es) + 1
      by Less p later g = omega arith
      by Equal p later g = absurd (none_some e.1 (sym g))
      by Greater p later g = let rest = later g in omega (arith, rest)

  module _ (exact : (a b : K) → R a b ≡ Equal → a ≡ b) where
    -- maps that are within each other are one
    pub one_map : (m n : List (K × X)) → InOrder R m → InOrder R n → Within R m n → Within R n m → m ≡ n
    one_map [] [] s t all back = refl
    one_map [] (d ∷ n) s t all back = absurd (none_some d.1 (back d.0 d.1 (own_head d n)))
    one_map (e ∷ m) [] s t all back = absurd (none_some e.1 (all e.0 e.1 (own_head e m)))
    one_map (e ∷ m) (d ∷ n) s t all back = by (R e.0 d.0) refl (λ v w. one_map m n s.1 t.1 v w)
      where
        by : (r : Ordering) → R e.0 d.0 ≡ r → (Within R m n → Within R n m → m ≡ n) → e ∷ m ≡ d ∷ n
        by Less p both = absurd (none_some e.1 (sym (none_below e.0 (d ∷ n) (p, above_below e.0 d.0 n p t.0)) ∙ all e.0 e.1 (own_head e m)))
        by Greater p both =
            let low = turn o e.0 d.0 p in
            absurd (none_some d.1 (sym (none_below d.0 (e ∷ m) (low, above_below d.0 e.0 m low s.0)) ∙ back d.0 d.1 (own_head d n)))
        by Equal p both =
            let rest = both (within_rest e d m n s.0 p all) (within_rest d e n m t.0 (tied_back o e.0 d.0 p) back) in
            let value : d.1 ≡ e.1 = head_of d n e.0 e.1 p (all e.0 e.1 (own_head e m)) in
            let key : e.0 ≡ d.0 = exact e.0 d.0 p in
            λ j. (key j, (sym value) j) ∷ rest j
