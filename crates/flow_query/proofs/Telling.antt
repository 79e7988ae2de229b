-- The law of exact answers: the least of a list of counters is that of the known rows.
use Rattle.std.specs.Prelude.{◌≡◌, ◌≢◌, ℕ, zero, suc, ◌+◌, ◌<◌, ◌≤◌, ◌↔◌, List, [], ◌∷◌, map, length, fold, min, ◌⊎◌, Option, None, Some}
use Rattle.std.specs.List.{filter_map, range_with_len, cons_option, AllByRecursion}
use Rattle.std.specs.Option.{option_map}
use Rattle.std.proofs.Common.{refl, sym, ap, ◌∙◌, subst, arith, inl, inr}
use Rattle.std.proofs.lemmas.Bool.Decides.{eqb_tells}
use Rattle.flow_key.specs.declared.key.FlowKey.{FlowKey}
use Rattle.lg_model.specs.declared.column.Bucket.{Bucket}
use Rattle.lg_model.specs.declared.answer.Value.{Value}
use Rattle.lg_model.specs.declared.answer.Value.TheVariants.{Unknown, AtMost, Saturated}
use Rattle.lg_model.specs.Placing.{Shape, place}
use Rattle.lg_model.specs.Columns.{Cells}
use Rattle.lg_model.specs.Sketch.{bucket_in}
use Rattle.lg_model.specs.declared.limits.TheConstants.{LAST_BYTES, LAST_DELAY}
use Rattle.lg_model.specs.Answer.{Look, known_at, known, value_of}
use Rattle.flow_query.specs.Told.{NoneIsKnown, IsLeast, IsTold, LawOfExactAnswers}

abbrev AnyOf : {Y : Type 0} → (Y → Type 0) → List Y → Type 0
AnyOf P [] = ⊥
AnyOf P (y ∷ ys) = P y ⊎ AnyOf P ys

-- ---- what the rows from a on give, and the list of it

record Given {Y : Type 0} (P : Y → Type 0) (h : ℕ → Option Y) (a n : ℕ) : Type 0 where
  at : ℕ
  item : Y
  low : a ≤ at
  high : at < a + n
  gives : h at ≡ Some item
  holds : P item

each_down : {Y : Type 0} (P : Y → Type 0) (h : ℕ → Option Y) (a n : ℕ) → ((i : ℕ) (y : Y) → a ≤ i → i < a + n → h i ≡ Some y → P y) → AllByRecursion P (filter_map h (range_with_len a n))
each_down P h a zero f = tt
each_down {Y} P h a (suc n) f =
    let rest = each_down P h (a + 1) n (λ (i : ℕ) (y : Y) (low : a + 1 ≤ i) (high : i < a + 1 + n) is. f i y (omega arith) (omega arith) is) in
    (elim (h a) as (λ o. h a ≡ o → AllByRecursion P (cons_option o (filter_map h (range_with_len (a + 1) n)))) [
      | None ↦ λ is. rest
      | Some y ↦ λ is. (f a y (omega arith) (omega arith) is, rest)
    ]) refl

each_up : {Y : Type 0} (P : Y → Type 0) (h : ℕ → Option Y) (a n : ℕ) → AllByRecursion P (filter_map h (range_with_len a n)) → (i : ℕ) (y : Y) → a ≤ i → i < a + n → h i ≡ Some y → P y
each_up P h a zero all i y low high is = absurd (omega arith)
each_up P h a (suc n) all i y low high is = elim (eqb_tells i a) [
  | inl same ↦ let at : h a ≡ Some y = ap h (sym same.1) ∙ is in
      let first : AllByRecursion P (cons_option (Some y) (filter_map h (range_with_len (a + 1) n))) = subst (λ o. AllByRecursion P (cons_option o (filter_map h (range_with_len (a + 1) n)))) at all in first.0
  | inr other ↦ let apart = other.1 in each_up P h (a + 1) n
      ((elim (h a) as (λ o. AllByRecursion P (cons_option o (filter_map h (range_with_len (a + 1) n))) → AllByRecursion P (filter_map h (range_with_len (a + 1) n))) [
        | None ↦ λ rest. rest
        | Some x ↦ λ both. both.1
      ]) all) i y (omega arith) (omega arith) is
]

later : {Y : Type 0} (P : Y → Type 0) (h : ℕ → Option Y) (a n : ℕ) → Given P h (a + 1) n → Given P h a (suc n)
later P h a n g = record { at = g.at; item = g.item; low = let low = g.low in omega arith; high = let high = g.high in omega arith; gives = g.gives; holds = g.holds }

any_up : {Y : Type 0} (P : Y → Type 0) (h : ℕ → Option Y) (a n : ℕ) → AnyOf P (filter_map h (range_with_len a n)) → Given P h a n
any_up P h a zero any = absurd any
any_up P h a (suc n) any =
    (elim (h a) as (λ o. h a ≡ o → AnyOf P (cons_option o (filter_map h (range_with_len (a + 1) n))) → Given P h a (suc n)) [
      | None ↦ λ is rest. later P h a n (any_up P h (a + 1) n rest)
      | Some y ↦ λ is both. elim both [
        | inl here ↦ record { at = a; item = y; low = omega arith; high = omega arith; gives = is; holds = here }
        | inr rest ↦ later P h a n (any_up P h (a + 1) n rest)
      ]
    ]) refl any

any_down : {Y : Type 0} (P : Y → Type 0) (h : ℕ → Option Y) (a n : ℕ) → (i : ℕ) (y : Y) → a ≤ i → i < a + n → h i ≡ Some y → P y → AnyOf P (filter_map h (range_with_len a n))
any_down P h a zero i y low high is p = absurd (omega arith)
any_down P h a (suc n) i y low high is p = elim (eqb_tells i a) [
  | inl same ↦ subst (λ o. AnyOf P (cons_option o (filter_map h (range_with_len (a + 1) n)))) (sym (ap h (sym same.1) ∙ is)) (inl p)
  | inr other ↦ let apart = other.1 in
      let rest = any_down P h (a + 1) n i y (omega arith) (omega arith) is p in
      elim (h a) as (λ o. AnyOf P (cons_option o (filter_map h (range_with_len (a + 1) n)))) [
        | None ↦ rest
        | Some x ↦ inr rest
      ]
]

-- ---- the least of a list of counters

record LeastIn {Y : Type 0} (c : Y → ℕ) (ys : List Y) (n : ℕ) : Type 0 where
  found : AnyOf (λ y. c y ≡ n) ys
  least : AllByRecursion (λ y. n ≤ c y) ys

record LeastFrom {Y : Type 0} (c : Y → ℕ) (a : ℕ) (ys : List Y) (n : ℕ) : Type 0 where
  found : (n ≡ a) ⊎ AnyOf (λ y. c y ≡ n) ys
  below : n ≤ a
  least : AllByRecursion (λ y. n ≤ c y) ys

least_from : {Y : Type 0} (c : Y → ℕ) (a : ℕ) (ys : List Y) → LeastFrom c a ys (fold min a (map c ys))
least_from c a [] = record { found = inl refl; below = omega arith; least = tt }
least_from c a (y ∷ ys) =
    let m = fold min (min a (c y)) (map c ys) in
    let is : LeastFrom c (min a (c y)) ys m = least_from c (min a (c y)) ys in
    let low : m ≤ min a (c y) = is.below in
    record {
      found = elim is.found [
        | inl same ↦ elim (eqb_tells (min a (c y)) a) [
          | inl first ↦ inl (same ∙ first.1)
          | inr other ↦ let apart = other.1 in let second : c y ≡ m = omega arith in inr (inl second)
        ]
        | inr more ↦ inr (inr more)
      ];
      below = omega arith;
      least = ((let here : m ≤ c y = omega arith in here), is.least);
    }

least_in : {Y : Type 0} (c : Y → ℕ) (y : Y) (ys : List Y) → LeastIn c (y ∷ ys) (fold min (c y) (map c ys))
least_in c y ys =
    let is = least_from c (c y) ys in
    record {
      found = elim is.found [ inl same ↦ inl (sym same) | inr more ↦ inr more ];
      least = (is.below, is.least);
    }

meet : {Y : Type 0} (c : Y → ℕ) (ys : List Y) (m n : ℕ) → AllByRecursion (λ y. m ≤ c y) ys → AnyOf (λ y. c y ≡ n) ys → m ≤ n
meet c [] m n all any = absurd any
meet c (y ∷ ys) m n all any = elim any [
  | inl here ↦ let low : m ≤ c y = all.0 in omega arith
  | inr rest ↦ meet c ys m n all.1 rest
]

one_least : {Y : Type 0} (c : Y → ℕ) (ys : List Y) (m n : ℕ) → LeastIn c ys m → LeastIn c ys n → m ≡ n
one_least c ys m n a b = let low = meet c ys m n a.least b.found in let high = meet c ys n m b.least a.found in omega arith

-- what is told of a list of counters
record ListTold {Y : Type 0} (c : Y → ℕ) (limit : ℕ) (ys : List Y) (value : Value) : Type 0 where
  unknown : value ≡ Unknown ↔ (ys ≡ [])
  saturated : value ≡ Saturated ↔ LeastIn c ys limit
  at_most : (n : ℕ) → value ≡ AtMost n ↔ (LeastIn c ys n × (n ≢ limit))

list_told : {Y : Type 0} (c : Y → ℕ) (limit : ℕ) (ys : List Y) → ListTold c limit ys (value_of limit (map c ys))
list_told c limit [] = record {
  unknown = (λ _. refl, λ _. refl);
  saturated = (λ h. cc, λ l. absurd l.found);
  at_most = λ n. (λ h. cc, λ l. absurd l.0.found);
}
list_told c limit (y ∷ ys) =
    let m = fold min (c y) (map c ys) in
    let is : LeastIn c (y ∷ ys) m = least_in c y ys in
    elim (eqb_tells m limit) [
      | inl same ↦ rw same.0 (record {
        unknown = (λ h. cc, λ h. cc);
        saturated = (λ h. subst (LeastIn c (y ∷ ys)) same.1 is, λ h. refl);
        at_most = λ n. (λ h. cc, λ l. absurd (l.1 (one_least c (y ∷ ys) n m l.0 is ∙ same.1)));
      })
      | inr other ↦ rw other.0 (record {
        unknown = (λ h. cc, λ h. cc);
        saturated = (λ h. cc, λ l. absurd (other.1 (one_least c (y ∷ ys) m limit is l)));
        at_most = λ n. ((λ h. let same : m ≡ n = cc in (subst (LeastIn c (y ∷ ys)) same is, λ at. other.1 (same ∙ at))), λ l. ap AtMost (one_least c (y ∷ ys) m n is l.0));
      })
    ]

-- ---- rows of a flow

no_item : {Y : Type 0} (ys : List Y) → AllByRecursion (λ y. ⊥) ys → ys ≡ []
no_item [] all = refl
no_item (y ∷ ys) all = absurd all.0

module _ (look : Look) (shape : Shape) (s e : ℕ) (f : FlowKey) where
  none_from_empty : known look shape s e f ≡ [] → NoneIsKnown look shape s e f
  none_from_empty empty i inside = (elim (look s e (place shape f i)) as (λ o. look s e (place shape f i) ≡ o → o ≡ None) [
    | None ↦ λ is. refl
    | Some cells ↦ λ is. absurd (each_up (λ b. ⊥) (known_at look shape s e f) 0 shape.rows (subst (AllByRecursion (λ (b : Bucket). ⊥)) (sym empty) tt) i (bucket_in cells.buckets i) (omega arith) (omega arith)
        (ap (λ (o : Option Cells). option_map (λ (x : Cells). bucket_in x.buckets i) o) is))
  ]) refl

  empty_from_none : NoneIsKnown look shape s e f → known look shape s e f ≡ []
  empty_from_none none = no_item (known look shape s e f) (each_down (λ b. ⊥) (known_at look shape s e f) 0 shape.rows (λ i b low high is.
      let at = none i (omega arith) in
      let not : None ≡ Some b = sym (ap (λ (o : Option Cells). option_map (λ (x : Cells). bucket_in x.buckets i) o) at) ∙ is in cc))

  least_rows : (c : Bucket → ℕ) (n : ℕ) → LeastIn c (known look shape s e f) n → IsLeast c look shape s e f n
  least_rows c n l =
      let g = any_up (λ b. c b ≡ n) (known_at look shape s e f) 0 shape.rows l.found in
      record {
        row = g.at;
        bucket = g.item;
        known = record { inside = let high = g.high in omega arith; kept = g.gives };
        has = g.holds;
        least = λ i b is. each_up (λ b. n ≤ c b) (known_at look shape s e f) 0 shape.rows l.least i b (omega arith) (let inside = is.inside in omega arith) is.kept;
      }

  least_list : (c : Bucket → ℕ) (n : ℕ) → IsLeast c look shape s e f n → LeastIn c (known look shape s e f) n
  least_list c n l =
      let inside = l.known.inside in
      record {
        found = any_down (λ b. c b ≡ n) (known_at look shape s e f) 0 shape.rows l.row l.bucket (omega arith) (omega arith) l.known.kept l.has;
        least = each_down (λ b. n ≤ c b) (known_at look shape s e f) 0 shape.rows (λ i b low high gives. l.least i b (record { inside = omega arith; kept = gives }));
      }

  told : (c : Bucket → ℕ) (limit : ℕ) → IsTold c limit look shape s e f (value_of limit (map c (known look shape s e f)))
  told c limit =
      let t = list_told c limit (known look shape s e f) in
      record {
        unknown = (λ is. none_from_empty (t.unknown.0 is), λ none. t.unknown.1 (empty_from_none none));
        saturated = (λ is. least_rows c limit (t.saturated.0 is), λ l. t.saturated.1 (least_list c limit l));
        at_most = λ n. (λ is. (least_rows c n ((t.at_most n).0 is).0, ((t.at_most n).0 is).1), λ l. (t.at_most n).1 (least_list c n l.0, l.1));
      }

length_none : {Y : Type 0} (ys : List Y) → length ys ≡ 0 → ys ≡ []
length_none [] is = refl
length_none (y ∷ ys) is = absurd (omega arith)

pub law : LawOfExactAnswers
law look shape s e f = record {
  rows = (λ is. none_from_empty look shape s e f (length_none (known look shape s e f) is), λ none. ap length (empty_from_none look shape s e f none));
  bytes = told look shape s e f (λ b. b.bytes) LAST_BYTES;
  delay = told look shape s e f (λ b. b.delay) LAST_DELAY;
}
