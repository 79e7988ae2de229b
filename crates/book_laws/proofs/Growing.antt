-- The law of legal lists.
use Rattle.std.specs.Prelude.{◌≡◌, ◌⊎◌, List, [], ◌∷◌, ◌++◌, length, drop, All, Contains, Option, Some, None, IfSome}
use Rattle.std.specs.Option.{option_or}
use Rattle.std.specs.Ordering.{is_eq}
use Rattle.std.specs.declared.cmp.Ordering.TheVariants.{Equal}
use Rattle.std.proofs.Common.{refl, sym, ap, ◌∙◌, subst, arith, inl, inr, append_assoc}
use Rattle.std.proofs.lemmas.List.{append-nil, drop_at}
use Rattle.std.proofs.lemmas.List.Elements.{All-head, All-contains}
use mathlib.Core.List.{IsPrefix}
use Rattle.lg_model.specs.declared.column.Key.{Key}
use Rattle.lg_model.specs.Scenario.{Scenario}
use Rattle.lg_model.specs.Carrying.{picked}
use Rattle.lg_model.specs.Arriving.{brought_to_all}
use Rattle.lg_model.specs.Columns.{Cells, Column}
use Rattle.lg_model.specs.Answer.{Content, key_cmp, found}
use Rattle.lg_model.specs.Joining.{join}
use Rattle.lg_model.proofs.Maps.{InOrder, Within, one_map}
use Rattle.sketchlet_wire.specs.Uploads.{UploadData}
use Rattle.column_book.specs.Entries.{columns_in, content_in}
use Rattle.column_book.specs.Applying.{new_columns}
use Rattle.column_book.proofs.Keys.{one_key, is_at_key}
use Rattle.column_book.proofs.Joins.{keys_total, in_order, join_in_order, found-join}
use Rattle.upload_world.specs.Pumps.{Has}
use Rattle.run_laws.specs.Truth.{book_of}
use Rattle.book_laws.specs.Legal.{Order, AreLegalNext, IsLegal, upload_at}
use Rattle.book_laws.specs.Keeping.{IsHeld, AllHeld, HasKeysOnce, IsJoined}
use Rattle.book_laws.specs.Laws.{LawOfLegalLists}
use Rattle.book_laws.proofs.Lists.{same_rest}
use Rattle.book_laws.proofs.Contents.{none_some, some_same, if_some, came_from, some_found, new_absent, content_in_order}
use Rattle.book_laws.proofs.Legal.{are_new, legal_keeps, next_brought, legal_brought, legal_once, found_from, legal_front}

tied : (a b : Key) → key_cmp a b ≡ Equal → a ≡ b
tied a b h = one_key a b (sym (is_at_key a b) ∙ ap is_eq h)

-- a content that has what either has, and nothing else, is the join
joined : (m n all : Content) → InOrder key_cmp m → InOrder key_cmp n → InOrder key_cmp all →
    ((k : Key) (v : Cells) → found m k ≡ Some v → found all k ≡ Some v) → ((k : Key) (v : Cells) → found n k ≡ Some v → found all k ≡ Some v) →
    ((k : Key) (v : Cells) → found all k ≡ Some v → (found m k ≡ Some v) ⊎ (found n k ≡ Some v)) → all ≡ join m n
joined m n all sm sn sa left right back = one_map keys_total tied all (join m n) sa (join_in_order m n sm) into from
  where
    into_by : (k : Key) (v : Cells) (o : Option Cells) → found n k ≡ o → found all k ≡ Some v → (found m k ≡ Some v) ⊎ (found n k ≡ Some v) →
        option_or o (found m k) ≡ Some v
    into_by k v None is h (inl x) = x
    into_by k v None is h (inr x) = absurd (none_some v (sym is ∙ x))
    into_by k v (Some u) is h x = sym (right k u is) ∙ h

    into : Within key_cmp all (join m n)
    into k v h = found-join m n k sn ∙ into_by k v (found n k) refl h (back k v h)

    from_by : (k : Key) (v : Cells) (o : Option Cells) → found n k ≡ o → option_or o (found m k) ≡ Some v → found all k ≡ Some v
    from_by k v None is h = left k v h
    from_by k v (Some u) is h = right k u is ∙ h

    from : Within key_cmp (join m n) all
    from k v h = from_by k v (found n k) refl (sym (found-join m n k sn) ∙ h)

module _ (order : Order) (w : Scenario) (before more : List UploadData) (legal : AreLegalNext order w before more) where
  abbrev came : List Column
  came = brought_to_all w (picked w)

  abbrev book_in_order : InOrder key_cmp (book_of w)
  book_in_order = in_order [] came tt

  -- ---- a list that has all that is brought

  module _ (all : AllHeld w (before ++ more)) where
    held : (k : Key) (v : Cells) → Has came k v → found (content_in (before ++ more)) k ≡ Some v
    held k v has =
        ap (found (content_in (before ++ more))) (sym has.key) ∙ All-contains (IsHeld (content_in (before ++ more))) came has.column all has.inside
        ∙ ap (λ (x : Cells). Some x) has.cells

    of_brought : (k : Key) (v : Cells) → found (book_of w) k ≡ Some v → found (content_in (before ++ more)) k ≡ Some v
    of_brought k v h = elim (came_from [] came k v h) as (λ _. found (content_in (before ++ more)) k ≡ Some v) [
      | inl none ↦ absurd (none_some v none)
      | inr has ↦ held k v has
    ]

    to_brought : (k : Key) (v : Cells) → Has came k v → found (book_of w) k ≡ Some v
    to_brought k v has =
        let some = some_found came has.column has.inside in
        let there : found (book_of w) k ≡ Some some.0 = ap (found (book_of w)) (sym has.key) ∙ some.1 in
        there ∙ ap (λ (x : Cells). Some x) (some_same some.0 v (sym (of_brought k some.0 there) ∙ held k v has))

    is_joined : IsJoined w before (before ++ more)
    is_joined = record {
      fits = λ k. if_some (found (content_in before) k) (λ v. IfSome (found (book_of w) k) (λ u. u ≡ v)) (λ v kept.
          if_some (found (book_of w) k) (λ u. u ≡ v) (λ u new. some_same u v (sym (of_brought k u new) ∙ legal_keeps order w before more k v legal kept)));
      is = joined (content_in before) (book_of w) (content_in (before ++ more)) (content_in_order before) book_in_order (content_in_order (before ++ more))
          (λ k v h. legal_keeps order w before more k v legal h)
          of_brought
          (λ k v h. elim (found_from order w before more k v legal h) as (λ _. (found (content_in before) k ≡ Some v) ⊎ (found (book_of w) k ≡ Some v)) [
            | inl old ↦ inl old
            | inr new ↦ inr (to_brought k v new)
          ]);
    }

-- where all that is brought was there before, nothing is added
nothing_new : (order : Order) (w : Scenario) (before more : List UploadData) → AreLegalNext order w before more → AllHeld w before → more ≡ []
nothing_new order w before [] legal all = refl
nothing_new order w before (r ∷ more) legal all = absurd (by r.columns refl)
  where
    m : Content
    m = content_in before

    News : Column → Type 0
    News c = found m c.key ≡ None

    by : (cs : List Column) → r.columns ≡ cs → ⊥
    by [] is = let none = ap length is in let some = legal.0.some in omega (arith, none, some)
    by (c ∷ cs) is =
        let same : new_columns m (upload_at w legal.0.at r.seq).columns ≡ c ∷ cs = sym (are_new order w before r legal.0) ∙ is in
        let none : found m c.key ≡ None = All-head News c cs (subst (All News) same (new_absent m (upload_at w legal.0.at r.seq).columns)) in
        let came : Contains (brought_to_all w (picked w)) c =
        All-head (Contains (brought_to_all w (picked w))) c cs
        (subst (All (Contains (brought_to_all w (picked w)))) is (next_brought order w before r legal.0)) in
        none_some c.cells (sym none ∙ All-contains (IsHeld m) (brought_to_all w (picked w)) c all came)

-- what lies between the list that was found and a legal one is legal
pub legal_between : (order : Order) (w : Scenario) (before l list : List UploadData) → IsLegal order w before list → IsPrefix before l → IsPrefix l list →
    IsLegal order w before l
legal_between order w before l list legal p q = record {
  more = p.0;
  begins = sym p.1;
  each = legal_front order w before p.0 q.0 (subst (AreLegalNext order w before) (same_rest before legal.more (p.0 ++ q.0)
      (sym legal.begins ∙ sym q.1 ∙ ap (λ (m : List UploadData). m ++ q.0) (sym p.1) ∙ append_assoc before p.0 q.0)) legal.each);
}

pub added_is : (order : Order) (w : Scenario) (before list : List UploadData) (legal : IsLegal order w before list) → drop (length before) list ≡ legal.more
added_is order w before list legal = ap (λ (x : List UploadData). drop (length before) x) legal.begins ∙ drop_at before legal.more (length before) refl

pub law : LawOfLegalLists
law order w before list legal = record {
  begins = (legal.more, sym legal.begins);
  fronts = λ l p q. legal_between order w before l list legal p q;
  stays = λ c h. ap (λ (x : List UploadData). found (content_in x) c.key) legal.begins ∙ legal_keeps order w before legal.more c.key c.cells legal.each h;
  adds = subst (λ (x : List UploadData). All (Contains (brought_to_all w (picked w))) (columns_in x)) (sym (added_is order w before list legal))
      (legal_brought order w before legal.more legal.each);
  once = λ h. subst HasKeysOnce (sym legal.begins) (legal_once order w before legal.more legal.each h);
  joined = λ all. subst (IsJoined w before) (sym legal.begins) (is_joined order w before legal.more legal.each (subst (AllHeld w) legal.begins all));
  repeats = λ all. legal.begins ∙ ap (λ (m : List UploadData). before ++ m) (nothing_new order w before legal.more legal.each all) ∙ append-nil before;
}
