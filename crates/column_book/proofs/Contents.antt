-- What is found in a content that is made of columns under different keys.
use Rattle.std.specs.Prelude.{◌≡◌, ◌≢◌, Bool, true, false, ◌||◌, cond, List, [], ◌∷◌, map, fold, Option, None, Some, is_some}
use Rattle.std.specs.List.{list_any}
use Rattle.std.specs.Option.{unwrap_or}
use Rattle.std.specs.Ordering.{match_ordering, is_eq}
use Rattle.std.specs.declared.cmp.Ordering.TheVariants.{Less, Equal, Greater}
use Rattle.std.specs.BTreeMap.{insert_entry, is_at}
use Rattle.std.specs.Map.{lookup}
use Rattle.std.proofs.Common.{refl, sym, ap, ◌∙◌, subst}
use Rattle.lg_model.specs.declared.column.Dims.{Dims}
use Rattle.lg_model.specs.declared.column.Key.{Key}
use Rattle.lg_model.specs.Columns.{Cells, Column, cells_of}
use Rattle.lg_model.specs.Answer.{key_cmp, Content, with_column, content_of, found}
use Rattle.sketchlet_wire.specs.Uploads.{same_column_key}
use Rattle.column_book.proofs.Keys.{one_key, key_itself, is_at_key}

-- whether a key is the one that is asked for
abbrev at_key : Key → Key → Bool
at_key q k = is_at (key_cmp q) k

at_key-one : (q k : Key) → at_key q k ≡ true → q ≡ k
at_key-one q k h = one_key q k (sym (is_at_key q k) ∙ h)

greater_is_other : (k e : Key) → key_cmp k e ≡ Greater → k ≢ e
greater_is_other k e h same =
    let here : is_eq (key_cmp k e) ≡ true = is_at_key k e ∙ subst (λ (x : Key). same_column_key k x ≡ true) same (key_itself k) in
    let there : is_eq (key_cmp k e) ≡ false = ap is_eq h in
    absurd (cc)

-- what is found after an insertion
pub found-insert : (m : Content) (k q : Key) (v : Cells) → found (insert_entry key_cmp m k v) q ≡ cond (at_key q k) (Some v) (found m q)
found-insert [] k q v = refl
found-insert (e ∷ m) k q v =
    (elim (key_cmp k e.0) as (λ o. key_cmp k e.0 ≡ o → lookup (at_key q) (match_ordering o ((k, v) ∷ e ∷ m) ((e.0, v) ∷ m) (e ∷ insert_entry key_cmp m k v)) ≡ cond (at_key q k) (Some v) (cond (at_key q e.0) (Some e.1) (found m q))) [
      | Less ↦ λ h. refl
      | Equal ↦ λ h.
          let one : k ≡ e.0 = one_key k e.0 (sym (is_at_key k e.0) ∙ ap is_eq h) in
          let alike : at_key q k ≡ at_key q e.0 = ap (at_key q) one in
          rw alike ((elim (at_key q e.0) as (λ b. cond b (Some v) (found m q) ≡ cond b (Some v) (cond b (Some e.1) (found m q))) [
            | true ↦ refl
            | false ↦ refl
          ]))
      | Greater ↦ λ h.
          (elim (at_key q e.0) as (λ b. at_key q e.0 ≡ b → cond b (Some e.1) (found (insert_entry key_cmp m k v) q) ≡ cond (at_key q k) (Some v) (cond b (Some e.1) (found m q))) [
            | true ↦ λ here. (elim (at_key q k) as (λ b. at_key q k ≡ b → Some e.1 ≡ cond b (Some v) (Some e.1)) [
              | true ↦ λ too. absurd (greater_is_other k e.0 h (sym (at_key-one q k too) ∙ at_key-one q e.0 here))
              | false ↦ λ too. refl
            ]) refl
            | false ↦ λ here. found-insert m k q v
          ]) refl
    ]) refl

-- the column of a size under a key, with the counters that f gives
abbrev pub column_by : Dims → (Key → Cells) → Key → Column
column_by dims f k = record { key = k; dims = dims; cells = f k }

-- what is found after the columns of keys
pub found-columns : (dims : Dims) (f : Key → Cells) (ks : List Key) (m : Content) (q : Key) →
    found (fold with_column m (map (column_by dims f) ks)) q ≡ cond (list_any (same_column_key q) ks) (Some (f q)) (found m q)
found-columns dims f [] m q = refl
found-columns dims f (k ∷ ks) m q =
    found-columns dims f ks (with_column m (column_by dims f k)) q
    ∙ rw (found-insert m k q (f k), is_at_key q k) ((elim (same_column_key q k) as (λ b. same_column_key q k ≡ b →
    cond (list_any (same_column_key q) ks) (Some (f q)) (cond b (Some (f k)) (found m q)) ≡ cond (b || list_any (same_column_key q) ks) (Some (f q)) (found m q)) [
      | true ↦ λ h. let alike : f k ≡ f q = ap f (sym (one_key q k h)) in
          rw alike ((elim (list_any (same_column_key q) ks) as (λ b. cond b (Some (f q)) (Some (f q)) ≡ Some (f q)) [
            | true ↦ refl
            | false ↦ refl
          ]))
      | false ↦ λ h. refl
    ]) refl)

-- the content of the columns under keys is what is kept under them
pub found-kept : (dims : Dims) (look : Key → Option Cells) (ks : List Key) → ((k : Key) → is_some (look k) ≡ list_any (same_column_key k) ks) → (q : Key) →
    found (content_of (map (column_by dims (λ k. unwrap_or (look k) (cells_of []))) ks)) q ≡ look q
found-kept dims look ks there q =
    found-columns dims (λ k. unwrap_or (look k) (cells_of [])) ks [] q
    ∙ rw (← there q) ((elim (look q) as (λ (o : Option Cells). cond (is_some o) (Some (unwrap_or o (cells_of []))) None ≡ o) [
      | None ↦ refl
      | Some bs ↦ refl
    ]))
