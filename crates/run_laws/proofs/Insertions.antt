-- What insertions of columns do to a content: how many columns it has, and that it is a join.
use Rattle.std.specs.Prelude.{◌≡◌, ◌+◌, ◌≤◌, Bool, true, false, cond, List, [], ◌∷◌, length, filter, fold, Option, None, Some, is_none}
use Rattle.std.specs.List.{AllByRecursion, IsDistinct}
use Rattle.std.specs.Option.{option_or}
use Rattle.std.specs.Ordering.{is_eq}
use Rattle.std.specs.declared.cmp.Ordering.TheVariants.{Equal}
use Rattle.std.specs.BTreeMap.{is_at}
use Rattle.std.proofs.Common.{refl, sym, ap, ◌∙◌, subst, arith}
use Rattle.lg_model.specs.declared.column.Key.{Key}
use Rattle.lg_model.specs.Columns.{Cells, Column}
use Rattle.lg_model.specs.Answer.{key_cmp, Content, with_column, content_of, found}
use Rattle.lg_model.specs.Joining.{join}
use Rattle.lg_model.proofs.Maps.{InOrder, HasKeys, in_order_after, length-insert_new, no_longer, one_map}
use Rattle.sketchlet_wire.specs.Uploads.{IsUpload, same_column_key}
use Rattle.column_book.specs.Applying.{new_columns}
use Rattle.column_book.specs.Kept.{keys_of}
use Rattle.column_book.proofs.Keys.{one_key, is_at_key, same_column_key-flip}
use Rattle.column_book.proofs.Contents.{found-insert}
use Rattle.column_book.proofs.Joins.{keys_total, in_order, join_in_order, found-join}
use Rattle.column_book.proofs.Stored.{distinct_new}

abbrev at_key : Key → Key → Bool
at_key q k = is_at (key_cmp q) k

tied : (a b : Key) → key_cmp a b ≡ Equal → a ≡ b
tied a b h = one_key a b (sym (is_at_key a b) ∙ ap is_eq h)

-- what is found after an insertion, where it is told whether the key is the one that is asked for
told : (n : Content) (c : Column) (q : Key) (b : Bool) → at_key q c.key ≡ b → found (with_column n c) q ≡ cond b (Some c.cells) (found n q)
told n c q b p = found-insert n c.key q c.cells ∙ ap (λ (x : Bool). cond x (Some c.cells) (found n q)) p

-- ---- how many

more_keys : (n : Content) (c : Column) → HasKeys key_cmp n (with_column n c)
more_keys n c q v h = by (at_key q c.key) refl
  where
    by : (b : Bool) → at_key q c.key ≡ b → (u : Cells) × (found (with_column n c) q ≡ Some u)
    by true p = (c.cells, told n c q true p)
    by false p = (v, told n c q false p ∙ h)

same_keys : (n : Content) (c : Column) (old : Cells) → found n c.key ≡ Some old → HasKeys key_cmp (with_column n c) n
same_keys n c old has q v h = by (at_key q c.key) refl
  where
    by : (b : Bool) → at_key q c.key ≡ b → (u : Cells) × (found n q ≡ Some u)
    by true p = (old, ap (found n) (one_key q c.key (sym (is_at_key q c.key) ∙ p)) ∙ has)
    by false p = (v, sym (told n c q false p) ∙ h)

one_more : (n : Content) (c : Column) → InOrder key_cmp n → length n ≤ length (with_column n c)
one_more n c s = no_longer keys_total n (with_column n c) s (in_order_after keys_total n c.key c.cells s) (more_keys n c)

no_more : (n : Content) (c : Column) (old : Cells) → InOrder key_cmp n → found n c.key ≡ Some old → length (with_column n c) ≤ length n
no_more n c old s has = no_longer keys_total (with_column n c) n (in_order_after keys_total n c.key c.cells s) s (same_keys n c old has)

-- a content never loses a column
pub grows : (n : Content) (cs : List Column) → InOrder key_cmp n → length n ≤ length (fold with_column n cs)
grows n [] s = omega arith
grows n (c ∷ cs) s =
    let one = one_more n c s in
    let rest = grows (with_column n c) cs (in_order_after keys_total n c.key c.cells s) in
    omega (arith, one, rest)

-- columns of other keys are as new after an insertion as before
new_still : (n : Content) (c : Column) (cs : List Column) → AllByRecursion (λ (k : Key). same_column_key c.key k ≡ false) (keys_of cs) →
    new_columns (with_column n c) cs ≡ new_columns n cs
new_still n c [] apart = refl
new_still n c (x ∷ cs) apart =
    let other : at_key x.key c.key ≡ false = is_at_key x.key c.key ∙ same_column_key-flip x.key c.key ∙ apart.0 in
    let same : found (with_column n c) x.key ≡ found n x.key = told n c x.key false other in
    ap (λ (o : Option Cells). cond (is_none o) (x ∷ new_columns (with_column n c) cs) (new_columns (with_column n c) cs)) same
    ∙ ap (λ (ys : List Column). cond (is_none (found n x.key)) (x ∷ ys) ys) (new_still n c cs apart.1)

counted : (n : Content) (cs : List Column) → InOrder key_cmp n → IsDistinct same_column_key (keys_of cs) →
    length (fold with_column n cs) ≡ length n + length (new_columns n cs)
unfolding IsDistinct
counted n [] s apart = omega arith
counted n (c ∷ cs) s apart = by (found n c.key) refl (counted (with_column n c) cs (in_order_after keys_total n c.key c.cells s) apart.1)
  where
    still : length (new_columns (with_column n c) cs) ≡ length (new_columns n cs)
    still = ap length (new_still n c cs apart.0)

    by : (o : Option Cells) → found n c.key ≡ o →
        length (fold with_column (with_column n c) cs) ≡ length (with_column n c) + length (new_columns (with_column n c) cs) →
        length (fold with_column (with_column n c) cs) ≡ length n + length (cond (is_none o) (c ∷ new_columns n cs) (new_columns n cs))
    by None h later = let one = length-insert_new keys_total n c.key c.cells h in omega (arith, later, still, one)
    by (Some old) h later =
        let low = one_more n c s in
        let high = no_more n c old s h in
        omega (arith, later, still, low, high)

all_pass : (cs : List Column) → filter (λ (c : Column). true) cs ≡ cs
all_pass [] = refl
all_pass (c ∷ cs) = ap (λ (xs : List Column). c ∷ xs) (all_pass cs)

-- an upload makes a content longer by its new columns
pub longer : (n : Content) (cs : List Column) → InOrder key_cmp n → IsUpload cs → length (fold with_column n cs) ≡ length n + length (new_columns n cs)
longer n cs s is = counted n cs s
    (subst (λ (xs : List Column). IsDistinct same_column_key (keys_of xs)) (all_pass cs) (distinct_new (λ (c : Column). true) cs is.apart))

-- ---- a join

swap : (b : Bool) (v : Cells) (x y : Option Cells) → cond b (Some v) (option_or x y) ≡ option_or (cond b (Some v) x) y
swap true v x y = refl
swap false v x y = refl

found_over : (m e n : Content) (cs : List Column) → ((q : Key) → found n q ≡ option_or (found e q) (found m q)) → (q : Key) →
    found (fold with_column n cs) q ≡ option_or (found (fold with_column e cs) q) (found m q)
found_over m e n [] h q = h q
found_over m e n (c ∷ cs) h q =
    found_over m (with_column e c) (with_column n c) cs
    (λ p. found-insert n c.key p c.cells ∙ ap (cond (at_key p c.key) (Some c.cells)) (h p) ∙ swap (at_key p c.key) c.cells (found e p) (found m p)
    ∙ ap (λ (o : Option Cells). option_or o (found m p)) (sym (found-insert e c.key p c.cells)))
    q

-- insertions of columns are the join with their content
pub join_inserts : (m : Content) (cs : List Column) → InOrder key_cmp m → join m (content_of cs) ≡ fold with_column m cs
join_inserts m cs s = one_map keys_total tied (join m (content_of cs)) (fold with_column m cs) (join_in_order m (content_of cs) s) (in_order m cs s)
    (λ q v h. sym (same q) ∙ h) (λ q v h. same q ∙ h)
  where
    same : (q : Key) → found (join m (content_of cs)) q ≡ found (fold with_column m cs) q
    same q = found-join m (content_of cs) q (in_order [] cs tt) ∙ sym (found_over m [] m cs (λ p. refl) q)
