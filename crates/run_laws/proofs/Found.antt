-- What is found in a content that is made of columns.
use Rattle.std.specs.Prelude.{◌≡◌, ◌≢◌, ℕ, List, [], ◌∷◌, All, fold, true, false, cond, Option, Some, None, IfSome}
use Rattle.std.specs.Ordering.{nat_cmp, ordering_then, match_ordering, is_eq}
use Rattle.std.specs.declared.cmp.Ordering.{Ordering}
use Rattle.std.specs.declared.cmp.Ordering.TheVariants.{Less, Equal, Greater}
use Rattle.std.specs.BTreeMap.{insert_entry, is_at}
use Rattle.std.specs.Map.{lookup}
use Rattle.std.specs.Cmp.{nat_cmp_is}
use Rattle.std.proofs.Common.{refl, sym, ap, ◌∙◌, subst, arith}
use Rattle.std.proofs.lemmas.List.Elements.{All-nil, All-cons, All-head, All-tail}
use Rattle.lg_model.specs.declared.column.Key.{Key}
use Rattle.lg_model.specs.Columns.{Cells, Column}
use Rattle.lg_model.specs.Answer.{key_cmp, Content, found, with_column, content_of}
use Rattle.column_book.proofs.Keys.{one_key as told_one, is_at_key}

-- keys that compare as equal are one
one_key : (a b : Key) → key_cmp a b ≡ Equal → a ≡ b
one_key a b h = told_one a b (sym (is_at_key a b) ∙ ap is_eq h)

-- a key compares as equal to itself
equal_to_itself : (n : ℕ) → nat_cmp n n ≡ Equal
equal_to_itself n = sym (nat_cmp_is n n Equal refl)

pub same_key : (k : Key) → key_cmp k k ≡ Equal
same_key k = λ j. ordering_then (equal_to_itself k.switch j) (ordering_then (equal_to_itself k.epoch j) (equal_to_itself k.index j))

abbrev pub rank : Ordering → ℕ
rank Less = 0
rank Equal = 1
rank Greater = 2

-- where it compares otherwise, it is another key
other_key : (k q : Key) (o : Ordering) → key_cmp q k ≡ o → rank o ≢ 1 → k ≢ q
other_key k q o is far same = far (ap rank (sym is ∙ ap (λ (x : Key). key_cmp q x) same ∙ same_key q))

-- what is found after an insertion has what the new and the old have
pub agrees_more : (P : Key → Cells → Type 0) (q k : Key) (v : Cells) (es : Content) → P k v → IfSome (found es q) (P q) →
    IfSome (found (insert_entry key_cmp es k v) q) (P q)
agrees_more P q k v [] new old = (elim (key_cmp q k) as (λ o. key_cmp q k ≡ o → IfSome (cond (is_eq o) (Some v) None) (P q)) [
  | Less ↦ λ same. tt
  | Equal ↦ λ same. subst (λ (x : Key). P x v) (sym (one_key q k same)) new
  | Greater ↦ λ same. tt
]) refl
agrees_more P q k v (e ∷ es) new old =
    (elim (key_cmp k e.0) as (λ o. key_cmp k e.0 ≡ o →
    IfSome (lookup (is_at (key_cmp q)) (match_ordering o ((k, v) ∷ e ∷ es) ((e.0, v) ∷ es) (e ∷ insert_entry key_cmp es k v))) (P q)) [
      | Less ↦ λ same. (elim (key_cmp q k) as (λ o. key_cmp q k ≡ o → IfSome (cond (is_eq o) (Some v) (found (e ∷ es) q)) (P q)) [
        | Less ↦ λ s. old
        | Equal ↦ λ s. subst (λ (x : Key). P x v) (sym (one_key q k s)) new
        | Greater ↦ λ s. old
      ]) refl
      | Equal ↦ λ same. (elim (key_cmp q e.0) as (λ o. key_cmp q e.0 ≡ o → IfSome (cond (is_eq o) (Some e.1) (found es q)) (P q) →
          IfSome (cond (is_eq o) (Some v) (found es q)) (P q)) [
            | Less ↦ λ s h. h
            | Equal ↦ λ s h. subst (λ (x : Key). P x v) (one_key k e.0 same ∙ sym (one_key q e.0 s)) new
            | Greater ↦ λ s h. h
          ]) refl old
      | Greater ↦ λ same. (elim (is_eq (key_cmp q e.0)) as (λ b. IfSome (cond b (Some e.1) (found es q)) (P q) →
          IfSome (cond b (Some e.1) (found (insert_entry key_cmp es k v) q)) (P q)) [
            | true ↦ λ h. h
            | false ↦ λ h. agrees_more P q k v es new h
          ]) old
    ]) refl

-- what columns say alike is said of what is found
pub agrees_all : (P : Key → Cells → Type 0) (q : Key) (cs : List Column) (es : Content) → All (λ (c : Column). P c.key c.cells) cs →
    IfSome (found es q) (P q) → IfSome (found (fold with_column es cs) q) (P q)
agrees_all P q [] es all old = old
agrees_all P q (c ∷ cs) es all old =
    let Of : Column → Type 0 = λ x. P x.key x.cells in
    agrees_all P q cs (with_column es c) (All-tail Of c cs all) (agrees_more P q c.key c.cells es (All-head Of c cs all) old)

abbrev pub how_many : Option Cells → ℕ
how_many None = 0
how_many (Some v) = 1

-- where nothing is found after an insertion, nothing was before, and the new key is another
pub none_before : (q k : Key) (v : Cells) (es : Content) → found (insert_entry key_cmp es k v) q ≡ None → (found es q ≡ None) × (k ≢ q)
none_before q k v [] none = (elim (key_cmp q k) as (λ o. key_cmp q k ≡ o → cond (is_eq o) (Some v) None ≡ None → (found [] q ≡ None) × (k ≢ q)) [
  | Less ↦ λ s h. (refl, other_key k q Less s (λ x. absurd (omega (arith, x))))
  | Equal ↦ λ s h. let x = ap how_many h in absurd (omega (arith, x))
  | Greater ↦ λ s h. (refl, other_key k q Greater s (λ x. absurd (omega (arith, x))))
]) refl none
none_before q k v (e ∷ es) none =
    (elim (key_cmp k e.0) as (λ o. key_cmp k e.0 ≡ o →
    lookup (is_at (key_cmp q)) (match_ordering o ((k, v) ∷ e ∷ es) ((e.0, v) ∷ es) (e ∷ insert_entry key_cmp es k v)) ≡ None →
    (found (e ∷ es) q ≡ None) × (k ≢ q)) [
      | Less ↦ λ same. (elim (key_cmp q k) as (λ o. key_cmp q k ≡ o → cond (is_eq o) (Some v) (found (e ∷ es) q) ≡ None → (found (e ∷ es) q ≡ None) × (k ≢ q)) [
        | Less ↦ λ s h. (h, other_key k q Less s (λ x. absurd (omega (arith, x))))
        | Equal ↦ λ s h. let x = ap how_many h in absurd (omega (arith, x))
        | Greater ↦ λ s h. (h, other_key k q Greater s (λ x. absurd (omega (arith, x))))
      ]) refl
      | Equal ↦ λ same. (elim (key_cmp q e.0) as (λ o. key_cmp q e.0 ≡ o → cond (is_eq o) (Some v) (found es q) ≡ None →
          (cond (is_eq o) (Some e.1) (found es q) ≡ None) × (k ≢ q)) [
            | Less ↦ λ s h. (h, other_key k q Less (ap (λ (x : Key). key_cmp q x) (one_key k e.0 same) ∙ s) (λ x. absurd (omega (arith, x))))
            | Equal ↦ λ s h. let x = ap how_many h in absurd (omega (arith, x))
            | Greater ↦ λ s h. (h, other_key k q Greater (ap (λ (x : Key). key_cmp q x) (one_key k e.0 same) ∙ s) (λ x. absurd (omega (arith, x))))
          ]) refl
      | Greater ↦ λ same. (elim (is_eq (key_cmp q e.0)) as (λ b. cond b (Some e.1) (found (insert_entry key_cmp es k v) q) ≡ None →
          (cond b (Some e.1) (found es q) ≡ None) × (k ≢ q)) [
            | true ↦ λ h. let x = ap how_many h in absurd (omega (arith, x))
            | false ↦ λ h. none_before q k v es h
          ])
    ]) refl none

-- where nothing is found under a key, none of the columns has it
pub none_has : (q : Key) (cs : List Column) (es : Content) → found (fold with_column es cs) q ≡ None →
    (found es q ≡ None) × All (λ (c : Column). c.key ≢ q) cs
none_has q [] es none = (none, All-nil (λ (c : Column). c.key ≢ q))
none_has q (c ∷ cs) es none =
    let rest = none_has q cs (with_column es c) none in
    let first = none_before q c.key c.cells es rest.0 in
    (first.0, All-cons (λ (x : Column). x.key ≢ q) c cs first.1 rest.1)

-- where none of the columns has a key, nothing is found under it
pub none_found : (q : Key) (cs : List Column) → All (λ (c : Column). c.key ≢ q) cs → found (content_of cs) q ≡ None
none_found q cs all = nothing (found (content_of cs) q) (agrees_all (λ k v. k ≢ q) q cs [] all tt)
  where
    nothing : (o : Option Cells) → IfSome o (λ v. q ≢ q) → o ≡ None
    nothing None h = refl
    nothing (Some v) h = absurd (h refl)
