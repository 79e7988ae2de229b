-- What is found in the content of records.
use Rattle.std.specs.Prelude.{◌≡◌, ℕ, zero, suc, ◌+◌, ◌<◌, ◌⊎◌, Bool, true, false, cond, List, [], ◌∷◌}
use Rattle.std.specs.Prelude.{◌++◌, length, fold, map, All, Contains, Option, None, Some, IfSome, is_none, slice_index_or, Result, Ok}
use Rattle.std.specs.List.{AllByRecursion, IsDistinct}
use Rattle.std.specs.Option.{option_or}
use Rattle.std.specs.BTreeMap.{is_at}
use Rattle.std.proofs.Common.{refl, sym, ap, ◌∙◌, subst, arith, inl, inr, true≢false, append-nil}
use Rattle.std.proofs.lemmas.List.{map-append}
use Rattle.std.proofs.lemmas.List.Elements.{All-nil, All-cons, All-head, All-tail, All-contains}
use Rattle.std.proofs.lemmas.List.Elements.{All-contains_itself, All-weaker, All-from_recursion, recursion_from_All, All-append, filter_passes}
use Rattle.std.proofs.lemmas.Grind.{flat_map-append, fold-append}
use Rattle.lg_model.specs.declared.column.Key.{Key}
use Rattle.lg_model.specs.Placing.{Shape}
use Rattle.lg_model.specs.Columns.{Cells, Column}
use Rattle.lg_model.specs.Answer.{Content, key_cmp, with_column, content_of, found}
use Rattle.lg_model.specs.Joining.{AreJoinable, join}
use Rattle.lg_model.proofs.Maps.{InOrder, length-insert_new}
use Rattle.sketchlet_wire.specs.Uploads.{UploadData, IsUpload, same_column_key}
use Rattle.column_book.specs.declared.entry.Entry.{Entry}
use Rattle.column_book.specs.declared.fault.BookFault.{BookFault}
use Rattle.column_book.specs.Entries.{records, columns_in, content_in, content}
use Rattle.column_book.specs.Applying.{is_new, new_columns, decide, entry_with, with_new, after_decision}
use Rattle.column_book.specs.Kept.{keys_of}
use Rattle.column_book.proofs.Keys.{one_key, key_itself, is_at_key, same_column_key-flip}
use Rattle.column_book.proofs.Contents.{found-insert}
use Rattle.column_book.proofs.Stored.{distinct_new}
use Rattle.column_book.proofs.Joins.{keys_total, in_order, found-join}
use Rattle.column_book.proofs.Joins as joins
use Rattle.upload_world.specs.Pumps.{Has}
use Rattle.run_laws.proofs.Found.{agrees_all, none_has}
use Rattle.book_laws.specs.Keeping.{HasKeysOnce}
use Rattle.book_laws.proofs.Lists.{contains_map}

-- ---- options

pub none_some : (v : Cells) → None ≡ Some v → ⊥
none_some v e = absurd (cc e)

pub some_same : (v u : Cells) → Some v ≡ Some u → v ≡ u
some_same v u e = cc e

pub if_some : (o : Option Cells) (P : Cells → Type 0) → ((v : Cells) → o ≡ Some v → P v) → IfSome o P
if_some None P h = tt
if_some (Some v) P h = h v refl

pub of_if : (o : Option Cells) (P : Cells → Type 0) (v : Cells) → IfSome o P → o ≡ Some v → P v
of_if None P v h is = absurd (none_some v is)
of_if (Some u) P v h is = subst P (some_same u v is) h

pub absent : (o : Option Cells) → is_none o ≡ true → o ≡ None
absent None h = refl
absent (Some v) h = absurd (true≢false (sym h))

-- ---- columns

-- all that have that key have these counters
abbrev pub Says : Key → Cells → List Column → Type 0
Says k v cs = All (λ (c : Column). c.key ≡ k → c.cells ≡ v) cs

told : (m : Content) (c : Column) (q : Key) (b : Bool) → is_at (key_cmp q) c.key ≡ b → found (with_column m c) q ≡ cond b (Some c.cells) (found m q)
told m c q b p = found-insert m c.key q c.cells ∙ ap (λ (x : Bool). cond x (Some c.cells) (found m q)) p

still_found : (m : Content) (cs : List Column) (k : Key) (v : Cells) → Says k v cs → found m k ≡ Some v → found (fold with_column m cs) k ≡ Some v
still_found m [] k v all h = h
still_found m (c ∷ cs) k v all h = still_found (with_column m c) cs k v (All-tail (λ (x : Column). x.key ≡ k → x.cells ≡ v) c cs all)
    (by (is_at (key_cmp k) c.key) refl)
  where
    by : (b : Bool) → is_at (key_cmp k) c.key ≡ b → found (with_column m c) k ≡ Some v
    by true p =
        let same : k ≡ c.key = one_key k c.key (sym (is_at_key k c.key) ∙ p) in
        told m c k true p ∙ ap (λ (x : Cells). Some x) (All-head (λ (x : Column). x.key ≡ k → x.cells ≡ v) c cs all (sym same))
    by false p = told m c k false p ∙ h

is_found : (m : Content) (cs : List Column) (c : Column) → Says c.key c.cells cs → Contains cs c → found (fold with_column m cs) c.key ≡ Some c.cells
is_found m [] c all h = absurd (let low = h.1 in omega (arith, low))
is_found m (d ∷ cs) c all h = by h.0 h.1 h.2 (λ g. is_found (with_column m d) cs c (All-tail (λ (x : Column). x.key ≡ c.key → x.cells ≡ c.cells) d cs all) g)
  where
    by : (i : ℕ) → i < length (d ∷ cs) → slice_index_or (d ∷ cs) i c ≡ c →
        (Contains cs c → found (fold with_column (with_column m d) cs) c.key ≡ Some c.cells) →
        found (fold with_column (with_column m d) cs) c.key ≡ Some c.cells
    by zero low is later =
        let here : is_at (key_cmp c.key) d.key ≡ true = is_at_key c.key d.key ∙ ap (λ (x : Column). same_column_key c.key x.key) is ∙ key_itself c.key in
        still_found (with_column m d) cs c.key c.cells (All-tail (λ (x : Column). x.key ≡ c.key → x.cells ≡ c.cells) d cs all)
        (told m d c.key true here ∙ ap (λ (x : Column). Some x.cells) is)
    by (suc i) low is later = later (i, omega (arith, low), is)

-- what is found was there, or is one of the columns
pub came_from : (m : Content) (cs : List Column) (k : Key) (v : Cells) → found (fold with_column m cs) k ≡ Some v → (found m k ≡ Some v) ⊎ Has cs k v
came_from m cs k v h = of_if (found (fold with_column m cs) k) (Either k) v (agrees_all Either k cs m each (if_some (found m k) (Either k) (λ u is. inl is))) h
  where
    Either : Key → Cells → Type 0
    Either q u = (found m q ≡ Some u) ⊎ Has cs q u

    each : All (λ (c : Column). Either c.key c.cells) cs
    each = All-weaker (Contains cs) (λ (c : Column). Either c.key c.cells)
        (λ c has. inr (record { column = c; inside = has; key = refl; cells = refl })) cs (All-contains_itself cs)

-- under the key of a column something is found
pub some_found : (cs : List Column) (c : Column) → Contains cs c → (v : Cells) × (found (content_of cs) c.key ≡ Some v)
some_found cs c has = by (found (content_of cs) c.key) refl
  where
    by : (o : Option Cells) → found (content_of cs) c.key ≡ o → (v : Cells) × (found (content_of cs) c.key ≡ Some v)
    by None none = absurd (All-contains (λ (x : Column). x.key ≡ c.key → ⊥) cs c (none_has c.key cs [] none).1 has refl)
    by (Some v) is = (v, is)

-- ---- columns of different keys

abbrev Unlike : Key → Key → Type 0
Unlike k q = same_column_key k q ≡ false

other : (k : Key) (cs : List Column) (c : Column) → AllByRecursion (Unlike k) (keys_of cs) → Contains cs c → k ≡ c.key → ⊥
other k cs c all has same =
    true≢false (sym (key_itself k) ∙ ap (same_column_key k) same
    ∙ All-contains (Unlike k) (keys_of cs) c.key (All-from_recursion (Unlike k) (keys_of cs) all) (contains_map (λ (x : Column). x.key) cs c has))

says_itself : (cs : List Column) → IsDistinct same_column_key (keys_of cs) → (c : Column) → Contains cs c → Says c.key c.cells cs
unfolding IsDistinct
says_itself [] apart c has = All-nil (λ (x : Column). x.key ≡ c.key → x.cells ≡ c.cells)
says_itself (d ∷ cs) apart c has = by has.0 has.1 has.2 (λ h. says_itself cs apart.1 c h)
  where
    Same : Column → Type 0
    Same x = x.key ≡ c.key → x.cells ≡ c.cells

    by : (i : ℕ) → i < length (d ∷ cs) → slice_index_or (d ∷ cs) i c ≡ c → (Contains cs c → All Same cs) → All Same (d ∷ cs)
    by zero low is rest =
        All-cons Same d cs (λ same. ap (λ (x : Column). x.cells) is)
        (All-weaker (Contains cs) Same (λ x inside same. absurd (other d.key cs x apart.0 inside (ap (λ (y : Column). y.key) is ∙ sym same))) cs
        (All-contains_itself cs))
    by (suc i) low is rest =
        let inside : Contains cs c = (i, omega (arith, low), is) in
        All-cons Same d cs (λ same. absurd (other d.key cs c apart.0 inside same)) (rest inside)

-- where no key stands twice, each column is found
pub once_found : (cs : List Column) → IsDistinct same_column_key (keys_of cs) → (c : Column) → Contains cs c → found (content_of cs) c.key ≡ Some c.cells
once_found cs apart c has = is_found [] cs c (says_itself cs apart c has) has

pub new_absent : (m : Content) (cs : List Column) → All (λ (c : Column). found m c.key ≡ None) (new_columns m cs)
new_absent m cs =
    All-weaker (λ (c : Column). is_new m c ≡ true) (λ (c : Column). found m c.key ≡ None) (λ c h. absent (found m c.key) h) (new_columns m cs)
    (filter_passes (is_new m) cs)

distinct_append : (xs ys : List Key) → IsDistinct same_column_key xs → IsDistinct same_column_key ys → All (λ (k : Key). All (Unlike k) ys) xs →
    IsDistinct same_column_key (xs ++ ys)
unfolding IsDistinct
distinct_append [] ys a b all = b
distinct_append (x ∷ xs) ys a b all = (
  recursion_from_All (Unlike x) (xs ++ ys)
      (All-append (Unlike x) xs ys (All-from_recursion (Unlike x) xs a.0) (All-head (λ (k : Key). All (Unlike k) ys) x xs all)),
  distinct_append xs ys a.1 b (All-tail (λ (k : Key). All (Unlike k) ys) x xs all),
)

-- each column of a new key makes a content longer by one
length_new : (m : Content) (cs : List Column) → IsDistinct same_column_key (keys_of cs) → All (λ (c : Column). found m c.key ≡ None) cs →
    length (fold with_column m cs) ≡ length m + length cs
unfolding IsDistinct
length_new m [] apart none = omega arith
length_new m (c ∷ cs) apart none =
    let one = length-insert_new keys_total m c.key c.cells (All-head (λ (x : Column). found m x.key ≡ None) c cs none) in
    let rest = length_new (with_column m c) cs apart.1
    (All-weaker (Contains cs) (λ (x : Column). found (with_column m c) x.key ≡ None) (λ x inside. still x inside) cs (All-contains_itself cs)) in
    omega (arith, one, rest)
  where
    still : (x : Column) → Contains cs x → found (with_column m c) x.key ≡ None
    still x inside =
        let far : is_at (key_cmp x.key) c.key ≡ false = is_at_key x.key c.key ∙ same_column_key-flip x.key c.key
        ∙ All-contains (Unlike c.key) (keys_of cs) x.key (All-from_recursion (Unlike c.key) (keys_of cs) apart.0)
        (contains_map (λ (y : Column). y.key) cs x inside) in
        told m c x.key false far ∙ All-contains (λ (y : Column). found m y.key ≡ None) cs x (All-tail (λ (y : Column). found m y.key ≡ None) c cs none) inside

-- ---- lists of records

pub content-append : (l m : List UploadData) → content_in (l ++ m) ≡ fold with_column (content_in l) (columns_in m)
content-append l m = ap content_of (flat_map-append (λ (r : UploadData). r.columns) l m) ∙ fold-append with_column [] (columns_in l) (columns_in m)

pub content_more : (l : List UploadData) (r : UploadData) → content_in (l ++ r ∷ []) ≡ fold with_column (content_in l) r.columns
content_more l r = content-append l (r ∷ []) ∙ ap (λ (cs : List Column). fold with_column (content_in l) cs) (append-nil r.columns)

pub content_in_order : (l : List UploadData) → InOrder key_cmp (content_in l)
content_in_order l = in_order [] (columns_in l) tt

-- where no key stands twice, there are as many columns as keys
pub as_many : (l : List UploadData) → HasKeysOnce l → length (columns_in l) ≡ length (content_in l)
as_many l once =
    let n = length_new [] (columns_in l) once (λ k d inside. refl) in
    omega (arith, n)

-- no key stands twice after new columns
pub once_more : (l : List UploadData) (r u : UploadData) → r.columns ≡ new_columns (content_in l) u.columns → IsUpload u.columns → HasKeysOnce l →
    HasKeysOnce (l ++ r ∷ [])
once_more l r u is whole once =
    subst (λ (ks : List Key). IsDistinct same_column_key ks) (sym all)
    (distinct_append (keys_of (columns_in l)) (keys_of new) once (distinct_new (is_new (content_in l)) u.columns whole.apart) apart)
  where
    new : List Column
    new = new_columns (content_in l) u.columns

    all : keys_of (columns_in (l ++ r ∷ [])) ≡ keys_of (columns_in l) ++ keys_of new
    all =
        ap keys_of (flat_map-append (λ (x : UploadData). x.columns) l (r ∷ []) ∙ ap (λ (cs : List Column). columns_in l ++ cs) (append-nil r.columns ∙ is))
        ∙ map-append (λ (c : Column). c.key) (columns_in l) new

    unlike : (d c : Column) → Contains (columns_in l) d → found (content_in l) c.key ≡ None → Unlike d.key c.key
    unlike d c has none = by (same_column_key d.key c.key) refl
      where
        by : (b : Bool) → same_column_key d.key c.key ≡ b → b ≡ false
        by false p = refl
        by true p =
            let some = some_found (columns_in l) d has in
            absurd (none_some some.0 (sym none ∙ ap (found (content_in l)) (sym (one_key d.key c.key p)) ∙ some.1))

    apart : All (λ (k : Key). All (Unlike k) (keys_of new)) (keys_of (columns_in l))
    apart = keys_all (λ (k : Key). All (Unlike k) (keys_of new)) (columns_in l) (λ d has. keys_all (Unlike d.key) new (λ c inside.
        unlike d c has (All-contains (λ (x : Column). found (content_in l) x.key ≡ None) new c (new_absent (content_in l) u.columns) inside)))
      where
        keys_all : (P : Key → Type 0) (cs : List Column) → ((c : Column) → Contains cs c → P c.key) → All P (keys_of cs)
        keys_all P [] each = All-nil P
        keys_all P (c ∷ cs) each = All-cons P c.key (keys_of cs) (each c (0, omega arith, refl))
            (keys_all P cs (λ d has. each d (suc has.0, (let low = has.1 in omega (arith, low)), has.2)))

-- ---- an upload that is taken

-- the content after it is the join of the one before and its own
pub record IsTakenIn (l : List UploadData) (u : UploadData) (new : List Column) : Type 0 where
  pub joinable : AreJoinable (content_in l) (content_of u.columns)
  pub joined : fold with_column (content_in l) new ≡ join (content_in l) (content_of u.columns)

abbrev plain : UploadData → Entry
plain r = record { pass = 0; stored = r }

plain_records : (l : List UploadData) → records (map plain l) ≡ l
plain_records [] = refl
plain_records (r ∷ l) = ap (λ (rs : List UploadData). r ∷ rs) (plain_records l)

content_new : (es : List Entry) (u : UploadData) (new : List Column) → content (with_new es 0 u new) ≡ fold with_column (content es) new
content_new es u [] = refl
content_new es u (c ∷ cs) =
    ap (λ (rs : List UploadData). content_in rs) (map-append (λ (x : Entry). x.stored) es (entry_with 0 u (c ∷ cs) ∷ []))
    ∙ content_more (records es) (entry_with 0 u (c ∷ cs)).stored

pub taken_in : (shape : Shape) (room : ℕ) (l : List UploadData) (u : UploadData) (new : List Column) → decide shape room l u ≡ Ok new → IsTakenIn l u new
taken_in shape room l u new is =
    let es : List Entry = map plain l in
    let same : records es ≡ l = plain_records l in
    let here : decide shape room (records es) u ≡ Ok new = ap (λ (rs : List UploadData). decide shape room rs u) same ∙ is in
    let law = joins.law shape room es 0 u new here in
    let grown : fold with_column (content es) new ≡ join (content es) (content_of u.columns) =
    sym (content_new es u new) ∙ ap (λ (d : Result (List Column) BookFault). content (after_decision es 0 u d)) (sym here) ∙ law.joined in
    subst (λ (rs : List UploadData). IsTakenIn rs u new) same (record { joinable = law.joinable; joined = grown })

-- what was found is found after it
pub join_keeps : (m n : Content) (k : Key) (v : Cells) → InOrder key_cmp n → AreJoinable m n → found m k ≡ Some v → found (join m n) k ≡ Some v
join_keeps m n k v ordered both h = found-join m n k ordered ∙ by (found n k) refl
  where
    by : (o : Option Cells) → found n k ≡ o → option_or o (found m k) ≡ Some v
    by None none = h
    by (Some u) is = ap (λ (x : Cells). Some x)
        (of_if (found n k) (λ (x : Cells). x ≡ v) u (of_if (found m k) (λ (x : Cells). IfSome (found n k) (λ (y : Cells). y ≡ x)) v (both k) h) is)

pub taken_keeps : (l : List UploadData) (u : UploadData) (new : List Column) → IsTakenIn l u new → (k : Key) (v : Cells) → found (content_in l) k ≡ Some v →
    found (fold with_column (content_in l) new) k ≡ Some v
taken_keeps l u new is k v h =
    ap (λ (m : Content). found m k) is.joined ∙ join_keeps (content_in l) (content_of u.columns) k v (in_order [] u.columns tt) is.joinable h
