-- The keys of a content one after the other, and its lines.
use Rattle.std.specs.Prelude.{◌≡◌, ℕ, zero, suc, ◌+◌, ◌<◌, Bool, true, false, cond, List, [], ◌∷◌, ◌++◌, length, take, Option, None, Some, IsSome}
use Rattle.std.specs.Prelude.{slice_index_or}
use Rattle.std.specs.List.{flat_map, range_with_len}
use Rattle.std.specs.Option.{option_map}
use Rattle.std.specs.Ordering.{is_eq, is_lt, ordering_reverse}
use Rattle.std.specs.declared.cmp.Ordering.{Ordering}
use Rattle.std.specs.declared.cmp.Ordering.TheVariants.{Less, Equal, Greater}
use Rattle.std.proofs.Common.{refl, sym, ap, ◌∙◌, subst, arith, inl, inr, take_all, append-nil, append_assoc}
use Rattle.std.proofs.lemmas.Bool.{cases_lt}
use Rattle.std.proofs.lemmas.Grind.{flat_map-append}
use Rattle.lg_model.specs.declared.column.Key.{Key}
use Rattle.lg_model.specs.declared.column.Dims.{Dims}
use Rattle.lg_model.specs.Columns.{Cells, Column, cells_of}
use Rattle.lg_model.specs.Answer.{Content, key_cmp, found}
use Rattle.lg_model.proofs.Maps.{InOrder, Above}
use Rattle.std.proofs.lemmas.List.{take_more}
use Rattle.column_book.specs.declared.entry.Entry.{Entry}
use Rattle.column_book.specs.Entries.{content, columns_of}
use Rattle.column_book.specs.Applying.{column_with}
use Rattle.column_book.specs.Order.{comes_after, IsNext}
use Rattle.column_book.proofs.Joins.{keys_total, in_order}
use Rattle.run_laws.proofs.Found.{same_key}
use Rattle.column_book.proofs.Keys.{one_key as told_one, is_at_key}
use Rattle.report_text.specs.Columns.{column_line}
use Rattle.guardian_run.specs.Outputs.{pair_line}
use Rattle.guardian_run.proofs.Keeping.{range_more}

-- keys that compare as equal are one
one_key : (a b : Key) → key_cmp a b ≡ Equal → a ≡ b
one_key a b h = told_one a b (sym (is_at_key a b) ∙ ap is_eq h)

-- the pair at a position
abbrev pub no_pair : Key × Cells
no_pair = (record { switch = 0; epoch = 0; index = 0 }, cells_of [])

abbrev pub pair_at : Content → ℕ → Key × Cells
pair_at m i = slice_index_or m i no_pair

-- the key before a position, if there is one
abbrev pub key_before : Content → ℕ → Option Key
key_before m zero = None
key_before m (suc i) = Some (pair_at m i).0

pub ordered : (es : List Entry) → InOrder key_cmp (content es)
ordered es = in_order [] (columns_of es) tt

-- ---- the keys rise

above_at : (k : Key) (es : Content) (j : ℕ) → Above key_cmp k es → j < length es → key_cmp k (pair_at es j).0 ≡ Less
above_at k [] j all inside = absurd (omega (arith, inside))
above_at k (e ∷ es) zero all inside = all.0
above_at k (e ∷ es) (suc j) all inside = above_at k es j all.1 (omega (arith, inside))

rises : (m : Content) (i j : ℕ) → InOrder key_cmp m → i < j → j < length m → key_cmp (pair_at m i).0 (pair_at m j).0 ≡ Less
rises [] i j o low inside = absurd (omega (arith, inside))
rises (e ∷ es) zero zero o low inside = absurd (omega (arith, low))
rises (e ∷ es) zero (suc j) o low inside = above_at e.0 es j o.0 (omega (arith, inside))
rises (e ∷ es) (suc i) zero o low inside = absurd (omega (arith, low))
rises (e ∷ es) (suc i) (suc j) o low inside = rises es i j o.1 (omega (arith, low)) (omega (arith, inside))

turned : (a b : Key) → key_cmp a b ≡ Less → key_cmp b a ≡ Greater
turned a b is = keys_total.antisymm b a ∙ ap ordering_reverse is

-- ---- what is found is there, and what is there is found

pub found_at : (m : Content) (i : ℕ) → InOrder key_cmp m → i < length m → found m (pair_at m i).0 ≡ Some (pair_at m i).1
found_at [] i o inside = absurd (omega (arith, inside))
found_at (e ∷ es) zero o inside = ap (λ (x : Ordering). cond (is_eq x) (Some e.1) (found es e.0)) (same_key e.0)
found_at (e ∷ es) (suc i) o inside =
    let low : i < length es = omega (arith, inside) in
    let k = (pair_at es i).0 in
    ap (λ (x : Ordering). cond (is_eq x) (Some e.1) (found es k)) (turned e.0 k (above_at e.0 es i o.0 low)) ∙ found_at es i o.1 low

record At (m : Content) (q : Key) : Type 0 where
  at : ℕ
  inside : at < length m
  is : (pair_at m at).0 ≡ q

one_more : (e : Key × Cells) (es : Content) (q : Key) → At es q → At (e ∷ es) q
one_more e es q p = record { at = suc p.at; inside = omega (arith, p.inside); is = p.is }

key_found : (m : Content) (q : Key) → IsSome (found m q) → At m q
key_found [] q is = absurd (cc is)
key_found (e ∷ es) q is =
    (elim (key_cmp q e.0) as (λ o. key_cmp q e.0 ≡ o → IsSome (cond (is_eq o) (Some e.1) (found es q)) → At (e ∷ es) q) [
      | Less ↦ λ same h. one_more e es q (key_found es q h)
      | Equal ↦ λ same h. record { at = 0; inside = omega arith; is = sym (one_key q e.0 same) }
      | Greater ↦ λ same h. one_more e es q (key_found es q h)
    ]) refl is

-- ---- the next key

not_both : (b : Bool) → b ≡ true → b ≡ false → ⊥
not_both b t f = absurd (cc (sym t ∙ f))

comes : (m : Content) (i : ℕ) → InOrder key_cmp m → i < length m → comes_after (key_before m i) (pair_at m i).0 ≡ true
comes m zero o inside = refl
comes m (suc i) o inside = ap is_lt (rises m i (suc i) o (omega arith) inside)

some_at : (m : Content) (i : ℕ) → InOrder key_cmp m → i < length m → IsSome (found m (pair_at m i).0)
some_at m i o inside = subst IsSome (sym (found_at m i o inside)) refl

-- a key before a position does not come after the last of them
not_later : (m : Content) (i p : ℕ) → InOrder key_cmp m → p < i → i < length m → comes_after (key_before m i) (pair_at m p).0 ≡ true → ⊥
not_later m zero p o low inside later = omega (arith, low)
not_later m (suc i) p o low inside later = elim (cases_lt p i) as (λ _. ⊥) [
  | inl lt ↦ not_both (is_lt (key_cmp (pair_at m i).0 (pair_at m p).0)) later
      (ap is_lt (turned (pair_at m p).0 (pair_at m i).0 (rises m p i o lt (omega (arith, inside)))))
  | inr ge ↦
      let here : p ≡ i = omega (arith, ge, low) in
      not_both (is_lt (key_cmp (pair_at m i).0 (pair_at m p).0)) later
      (ap (λ n. is_lt (key_cmp (pair_at m i).0 (pair_at m n).0)) here ∙ ap is_lt (same_key (pair_at m i).0))
]

pub next_at : (m : Content) (i : ℕ) (r : Option Key) → InOrder key_cmp m → i < length m → IsNext (found m) (key_before m i) r → r ≡ Some (pair_at m i).0
next_at m i None o inside next = absurd (next (pair_at m i).0 (some_at m i o inside) (comes m i o inside))
next_at m i (Some k) o inside next =
    let p = key_found m k next.there in
    let later : comes_after (key_before m i) (pair_at m p.at).0 ≡ true = ap (comes_after (key_before m i)) p.is ∙ next.later in
    elim (cases_lt p.at i) as (λ _. Some k ≡ Some (pair_at m i).0) [
      | inl lt ↦ absurd (not_later m i p.at o lt inside later)
      | inr ge ↦ elim (cases_lt i p.at) as (λ _. Some k ≡ Some (pair_at m i).0) [
        | inl lt ↦ absurd (not_both (is_lt (key_cmp (pair_at m i).0 k))
            (ap (λ (q : Key). is_lt (key_cmp (pair_at m i).0 q)) (sym p.is) ∙ ap is_lt (rises m i p.at o lt p.inside))
            (next.least (pair_at m i).0 (some_at m i o inside) (comes m i o inside)))
        | inr le ↦
            let here : p.at ≡ i = omega (arith, ge, le) in
            ap (λ (q : Key). Some q) (sym p.is ∙ ap (λ n. (pair_at m n).0) here)
      ]
    ]

-- ---- the column of the next key

abbrev some_key : Key → Option Key
some_key k = Some k

one_some : (k q : Key) → some_key k ≡ some_key q → k ≡ q
one_some k q is = cc

pub key_is : (m : Content) (i : ℕ) (r : Option Key) (k : Key) → r ≡ Some (pair_at m i).0 → r ≡ Some k → k ≡ (pair_at m i).0
key_is m i r k is same = one_some k (pair_at m i).0 (sym same ∙ is)

abbrev some_column : Column → Option Column
some_column c = Some c

one_column : (a b : Column) → some_column a ≡ some_column b → a ≡ b
one_column a b is = cc

pub column_is : (dims : Dims) (m : Content) (i : ℕ) (k : Key) (r : Option Column) (c : Column) → InOrder key_cmp m → i < length m → k ≡ (pair_at m i).0 →
    r ≡ option_map (column_with k dims) (found m k) → r ≡ Some c → c ≡ column_with (pair_at m i).0 dims (pair_at m i).1
column_is dims m i k r c o inside here value is =
    one_column c (column_with (pair_at m i).0 dims (pair_at m i).1)
    (sym is ∙ value ∙ ap (λ (q : Key). option_map (column_with q dims) (found m q)) here
    ∙ ap (option_map (column_with (pair_at m i).0 dims)) (found_at m i o inside))

pub key_more : (m : Content) (i : ℕ) (k : Key) → k ≡ (pair_at m i).0 → Some k ≡ key_before m (i + 1)
key_more m i k is = let one : suc i ≡ i + 1 = omega arith in subst (λ n. some_key k ≡ key_before m n) one (ap some_key is)

-- ---- its lines

pub line_more : (dims : Dims) (m : Content) (i : ℕ) (c : Column) (old new : List ℕ) → i < length m → old ≡ flat_map (pair_line dims) (take i m) →
    c ≡ column_with (pair_at m i).0 dims (pair_at m i).1 → new ≡ old ++ column_line c → new ≡ flat_map (pair_line dims) (take (i + 1) m)
line_more dims m i c old new inside before is put =
    put ∙ (λ j. before j ++ column_line (is j))
    ∙ ap (λ xs. flat_map (pair_line dims) (take i m) ++ xs) (sym (append-nil (pair_line dims (pair_at m i))))
    ∙ sym (ap (flat_map (pair_line dims)) (take_more m i no_pair inside) ∙ flat_map-append (pair_line dims) (take i m) (pair_at m i ∷ []))

-- the rows of a sketch, one more
pub row_more : {X : Type 0} (f : ℕ → List X) (n : ℕ) → flat_map f (range_with_len 0 (n + 1)) ≡ flat_map f (range_with_len 0 n) ++ f n
row_more f n =
    ap (flat_map f) (range_more n) ∙ flat_map-append f (range_with_len 0 n) (n ∷ [])
    ∙ ap (λ xs. flat_map f (range_with_len 0 n) ++ xs) (append-nil (f n))

pub rows_more : {X : Type 0} (f : ℕ → List X) (n : ℕ) (head old new : List X) → old ≡ head ++ flat_map f (range_with_len 0 n) → new ≡ old ++ f n →
    new ≡ head ++ flat_map f (range_with_len 0 (n + 1))
rows_more f n head old new before put =
    put ∙ ap (λ xs. xs ++ f n) before ∙ append_assoc head (flat_map f (range_with_len 0 n)) (f n) ∙ ap (λ xs. head ++ xs) (sym (row_more f n))

pub all_lines : (dims : Dims) (m : Content) (i : ℕ) (text : List ℕ) → i ≡ length m → text ≡ flat_map (pair_line dims) (take i m) →
    text ≡ flat_map (pair_line dims) m
all_lines dims m i text end is = is ∙ ap (flat_map (pair_line dims)) (take_all i m (omega (arith, end)))
