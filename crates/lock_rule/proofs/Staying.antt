-- What stays of the passes and of those that were joined, when one pass's view changes.
use Rattle.std.proofs.Common.{◌≡◌, ◌≢◌, ◌⊎◌, ℕ, zero, suc, ◌+◌, ◌*◌, ◌<◌, ◌≤◌, Bool, true, false, true≢false, cond, List, [], ◌∷◌, ◌++◌, length, set, refl, ap, sym, ◌∙◌, subst, arith, inl, inr, ⊎_elim, Option, Some, None}
use mathlib.Core.Logic.{dite}
use mathlib.Core.Option.{some, none, some-injective, some-ne-none}
use mathlib.Core.Option as maybe
use native.Mathlib.Decide.{ℕ_discrete}
use lib.ListN.{get_elem?}
use Rattle.atomic_table.proofs.Lists.{at_set, set_else, at_longer, at_last}
use Rattle.column_book.specs.declared.entry.Entry.{Entry}
use Rattle.lock_rule.specs.declared.view.Doing.{Doing}
use Rattle.lock_rule.specs.declared.view.Doing.TheVariants.{Idle, Drew, Has}
use Rattle.lock_rule.specs.declared.view.Mark.{Mark}
use Rattle.lock_rule.specs.declared.view.Mark.TheVariants.{Clear, Seen, Carries}
use Rattle.lock_rule.specs.declared.view.Joined.{Joined}
use Rattle.lock_rule.specs.declared.view.View.{View}
use Rattle.lock_rule.specs.Views.{most_calls, Marked, HasTurn, ticket, begun_by, calls, heads}
use Rattle.lock_rule.specs.Rules.{LockState, SomePass, SomeJoined, FitsDoing, FitsMark, Fits, FitsJoined, FitsView, IsNumber, Carried}

-- ---- functions from numbers

module _ {A : Type 0} where
  abbrev pick : {P : Type 0} → Dec P → A → A → A
  pick (yes _) a b = a
  pick (no _) a b = b

  pub put : (ℕ → A) → ℕ → A → ℕ → A
  put f i c j = pick (ℕ_discrete j i) c (f j)

  pub put_here : (f : ℕ → A) (i : ℕ) (c : A) → put f i c i ≡ c
  unfolding put
  put_here f i c = go (ℕ_discrete i i)
    where
      go : (d : Dec (i ≡ i)) → pick d c (f i) ≡ c
      go (yes _) = refl
      go (no n) = absurd (n refl)

  pub put_else : (f : ℕ → A) (i : ℕ) (c : A) (j : ℕ) → (j ≡ i → ⊥) → put f i c j ≡ f j
  unfolding put
  put_else f i c j other = go (ℕ_discrete j i)
    where
      go : (d : Dec (j ≡ i)) → pick d c (f j) ≡ f j
      go (yes e) = absurd (other e)
      go (no _) = refl

  -- ---- lists by index

  pub set_there : (l : List A) (i : ℕ) (a b : A) → get_elem? l i ≡ some a → get_elem? (set l i b) i ≡ some b
  set_there [] i a b e = absurd (some-ne-none a (sym e))
  set_there (x ∷ xs) zero a b e = refl
  set_there (x ∷ xs) (suc i) a b e = set_there xs i a b e

  -- what stands in a longer list stands in the shorter one, or is the last
  pub at_end : (l : List A) (a b : A) (j : ℕ) → get_elem? (l ++ a ∷ []) j ≡ some b → (get_elem? l j ≡ some b) ⊎ ((j ≡ length l) × (a ≡ b))
  at_end [] a b zero e = inr (refl, some-injective a b e)
  at_end [] a b (suc j) e = absurd (some-ne-none b (sym e))
  at_end (x ∷ xs) a b zero e = inl e
  at_end (x ∷ xs) a b (suc j) e = ⊎_elim (λ (h : get_elem? xs j ≡ some b). inl h) (λ (h : (j ≡ length xs) × (a ≡ b)). inr (ap suc h.0, h.1)) (at_end xs a b j e)

  pub at_short : (l : List A) (j : ℕ) (b : A) → get_elem? l j ≡ some b → j < length l
  at_short [] j b e = absurd (some-ne-none b (sym e))
  at_short (x ∷ xs) zero b e = omega arith
  at_short (x ∷ xs) (suc j) b e = let h = at_short xs j b e in omega arith

pub true_or_false : (b : Bool) → b ≡ true → b ≡ false → ⊥
true_or_false b e d = true≢false (sym e ∙ d)

pub some_or_none : {A : Type 0} (a : A) → None ≡ Some a → ⊥
some_or_none a e = absurd (cc (e))

pub number_one : (n : ℕ) → (n ≡ 1) ⊎ (n ≢ 1)
number_one n = dite (ℕ_discrete n 1) (λ e. inl e) (λ e. inr e)

pub same_ticket : (t u : ℕ) → Some t ≡ Some u → t ≡ u
same_ticket t u e = cc (e)

pub no_ticket : (t : ℕ) (d : Doing) → d ≡ Idle → ticket d ≡ Some t → ⊥
no_ticket t d idle e = some_or_none t (sym (ap ticket idle) ∙ e)

pub no_turn : (d : Doing) → d ≡ Idle → HasTurn d → ⊥
no_turn d idle k = subst HasTurn idle k

abbrev pub turn_of : ℕ → Doing → ℕ
turn_of n Idle = n
turn_of n (Drew t) = t
turn_of n (Has t l f) = t

abbrev pub list_of : List Entry → Doing → List Entry
list_of es Idle = es
list_of es (Drew t) = es
list_of es (Has t l f) = l

abbrev pub fault_of : Option Entry → Doing → Option Entry
fault_of o Idle = o
fault_of o (Drew t) = o
fault_of o (Has t l f) = f

pub some_or : {A : Type 0} (o : maybe.Option A) → (o ≡ none → ⊥) → (a : A) × (o ≡ some a)
some_or none out = absurd (out refl)
some_or (some a) out = (a, refl)

-- ---- some pass

pub some_stays : (P : View → Type 0) (vs : List View) (id : ℕ) (v w : View) → get_elem? vs id ≡ some v → w.live ≡ true → (P v → P w)
    → SomePass P vs → SomePass P (set vs id w)
some_stays P vs id v w at alive same s = dite (ℕ_discrete s.0 id)
    (λ e. (id, w, set_there vs id v w at, alive, same (subst P (some-injective s.1 v (sym s.2 ∙ (ap (get_elem? vs) e ∙ at))) s.4)))
    (λ n. (s.0, s.1, set_else vs id s.0 w n ∙ s.2, s.3, s.4))

-- another one than the pass whose view changes
pub some_else : (P : View → Type 0) (vs : List View) (id : ℕ) (v w : View) → get_elem? vs id ≡ some v → (P v → ⊥) → SomePass P vs → SomePass P (set vs id w)
some_else P vs id v w at other s = dite (ℕ_discrete s.0 id)
    (λ e. absurd (other (subst P (some-injective s.1 v (sym s.2 ∙ (ap (get_elem? vs) e ∙ at))) s.4)))
    (λ n. (s.0, s.1, set_else vs id s.0 w n ∙ s.2, s.3, s.4))

pub some_more : (P : View → Type 0) (vs : List View) (w : View) → SomePass P vs → SomePass P (vs ++ w ∷ [])
some_more P vs w s = (s.0, s.1, at_longer vs (w ∷ []) s.0 s.1 s.2, s.3, s.4)

pub some_last : (P : View → Type 0) (vs : List View) (w : View) → w.live ≡ true → P w → SomePass P (vs ++ w ∷ [])
some_last P vs w alive is = (length vs, w, at_last vs w (length vs) refl, alive, is)

pub joined_more : (P : Joined → Type 0) (p : Joined) (ps : List Joined) → SomeJoined P ps → SomeJoined P (p ∷ ps)
joined_more P p ps s = (suc s.0, s.1, s.2, s.3)

pub joined_here : (P : Joined → Type 0) (p : Joined) (ps : List Joined) → P p → SomeJoined P (p ∷ ps)
joined_here P p ps is = (0, p, refl, is)

-- ---- each pass

pub views_stay : (F : ℕ → View → Type 0) (vs : List View) (id : ℕ) (w : View) → F id w → ((j : ℕ) (v : View) → (j ≡ id → ⊥) → get_elem? vs j ≡ some v → F j v)
    → (j : ℕ) (v : View) → get_elem? (set vs id w) j ≡ some v → F j v
views_stay F vs id w mine others j v e = ⊎_elim
    (λ (t : (j ≡ id) × (w ≡ v)). subst (λ (x : ℕ × View). F x.0 x.1) (λ i. (sym t.0 i, t.1 i)) mine)
    (λ (t : (j ≢ id) × (get_elem? vs j ≡ some v)). others j v t.0 t.1) (at_set vs id j w v e)

module _ {J : Type 0} where
  -- a live view that changes, and the other live ones, whose numbers are others
  pub fits_stay : (first : List Entry) (g g' : LockState J) (vs : List View) (id : ℕ) (v w : View) → get_elem? vs id ≡ some v
      → Fits first g id v → w.live ≡ true → Fits first g' id w
      → ((j : ℕ) (x : View) → (j ≡ id → ⊥) → (x.number ≡ v.number → ⊥) → Fits first g j x → Fits first g' j x)
      → ((j : ℕ) (x : View) → get_elem? vs j ≡ some x → FitsView first g j x)
      → (j : ℕ) (x : View) → get_elem? (set vs id w) j ≡ some x → FitsView first g' j x
  fits_stay first g g' vs id v w at was alive mine others all = views_stay (FitsView first g') vs id w
      ((λ _. mine), λ h. absurd (true_or_false w.live alive h))
      (λ j x n e. let t = all j x e in ((λ h. let f = t.0 h in others j x n (λ s. n (sym f.owned ∙ (ap g.owner s ∙ was.owned))) f), t.1))

  pub is_number_stays : (g g' : LockState J) (vs : List View) (id : ℕ) (v w : View) → get_elem? vs id ≡ some v → w.live ≡ true → w.number ≡ v.number
      → g'.joined ≡ g.joined → (n : ℕ) → IsNumber g vs n → IsNumber g' (set vs id w) n
  is_number_stays g g' vs id v w at alive same list n = ⊎_elim
      (λ (t : SomePass (λ (x : View). x.number ≡ n) vs). inl (some_stays (λ (x : View). x.number ≡ n) vs id v w at alive (λ e. same ∙ e) t))
      (λ (t : SomeJoined (λ (p : Joined). p.number ≡ n) g.joined). inr (subst (SomeJoined (λ (p : Joined). p.number ≡ n)) (sym list) t))

  pub carried_stays : (g g' : LockState J) (vs : List View) (id : ℕ) (v w : View) → get_elem? vs id ≡ some v → w.live ≡ true
      → ((e : Entry) → v.mark ≡ Carries e → w.mark ≡ Carries e) → g'.joined ≡ g.joined → (e : Entry) → Carried g vs e → Carried g' (set vs id w) e
  carried_stays g g' vs id v w at alive same list e = ⊎_elim
      (λ (t : SomePass (λ (x : View). x.mark ≡ Carries e) vs). inl (some_stays (λ (x : View). x.mark ≡ Carries e) vs id v w at alive (same e) t))
      (λ (t : SomeJoined (λ (p : Joined). p.mark ≡ Carries e) g.joined). inr (subst (SomeJoined (λ (p : Joined). p.mark ≡ Carries e)) (sym list) t))

  -- the pass that has the turn holds the ticket serving
  pub turn_holds : (g : LockState J) (j : ℕ) (d : Doing) → FitsDoing g j d → HasTurn d → g.holder g.serving ≡ j
  turn_holds g j Idle f k = absurd k
  turn_holds g j (Drew t) f k = absurd k
  turn_holds g j (Has t l f) h k = ap g.holder h.0 ∙ h.2

  -- where the journal isn't broken, no pass is marked
  pub unmarked : (g : LockState J) (n : ℕ) (m : Mark) → g.fault ≡ None → FitsMark g n m → Marked m → ⊥
  unmarked g n Clear whole f k = absurd k
  unmarked g n Seen whole f k = some_or_none f.0 (sym whole ∙ f.1)
  unmarked g n (Carries e) whole f k = some_or_none e (sym whole ∙ f.0)

  pub faulty : (g : LockState J) (n : ℕ) (m : Mark) → FitsMark g n m → Marked m → (e : Entry) × (g.fault ≡ Some e)
  faulty g n Clear f k = absurd k
  faulty g n Seen f k = f
  faulty g n (Carries e) f k = (e, f.0)

  -- ---- few calls

  few_begun : (first : List Entry) (g : LockState J) (ps : List Joined) → ((k : ℕ) (p : Joined) → get_elem? ps k ≡ some p → p.begun ≤ most_calls)
      → begun_by ps ≤ length ps * most_calls
  few_begun first g [] each = omega arith
  few_begun first g (p ∷ ps) each = let a = each 0 p refl in let b = few_begun first g ps (λ k q e. each (suc k) q e) in omega arith

  pub few_calls : (first : List Entry) (g : LockState J) → ((k : ℕ) (p : Joined) → get_elem? g.joined k ≡ some p → FitsJoined first g k p)
      → (j : ℕ) (v : View) → FitsView first g j v → calls v ≤ heads v * most_calls
  few_calls first g joined j v f = by v.live refl
    where
      joined_few : Fits first g j v → begun_by v.joined ≤ length v.joined * most_calls
      joined_few t = ⊎_elim
          (λ (e : v.number ≡ 1). subst (λ (ps : List Joined). begun_by ps ≤ length ps * most_calls) (sym (t.head e).1) (few_begun first g g.joined (λ k p h. (joined k p h).few)))
          (λ (e : v.number ≢ 1). subst (λ (ps : List Joined). begun_by ps ≤ length ps * most_calls) (sym (t.tail e)) (omega arith)) (number_one v.number)

      by : (b : Bool) → v.live ≡ b → calls v ≤ heads v * most_calls
      by true e = let t = f.0 e in let a = joined_few t in let b = t.few in
          let h : heads v ≡ 1 + length v.joined = ap (λ (b : Bool). cond {A = ℕ} b 1 0 + length v.joined) e in
          subst (λ (z : ℕ). calls v ≤ z * most_calls) (sym h) (omega arith)
      by false e = subst (λ (x : View). calls x ≤ heads x * most_calls) (sym (f.1 e)) (omega arith)
