-- The content after an upload that is taken is the join of the content before and the upload's.
use Rattle.std.specs.Prelude.{◌≡◌, ℕ, Bool, true, false, cond, List, [], ◌∷◌, ◌++◌, fold, Option, None, Some, IfSome, is_none, Ok}
use Rattle.std.specs.List.{AllByRecursion}
use Rattle.std.specs.Option.{option_or}
use Rattle.std.specs.Ordering.{is_eq}
use Rattle.std.specs.declared.cmp.Ordering.{Ordering}
use Rattle.std.specs.declared.cmp.Ordering.TheVariants.{Less, Equal, Greater}
use Rattle.std.specs.BTreeMap.{is_at}
use Rattle.std.specs.Cmp.{IsTotalOrder, then_total, on_total}
use Rattle.std.proofs.Common.{refl, sym, ap, ◌∙◌, subst, append-nil}
use Rattle.std.proofs.lemmas.Cmp.{nat_cmp_total}
use Rattle.std.proofs.lemmas.List.{map-append}
use Rattle.std.proofs.lemmas.Grind.{flat_map-append, fold-append}
use Rattle.lg_model.specs.declared.column.Dims.{Dims}
use Rattle.lg_model.specs.declared.column.Key.{Key}
use Rattle.lg_model.specs.Columns.{Cells, Column, dims_of}
use Rattle.lg_model.specs.Answer.{key_cmp, Content, with_column, content_of, found}
use Rattle.lg_model.specs.Joining.{AreJoinable, with_pair, join}
use Rattle.lg_model.proofs.Maps.{InOrder, in_order_after, found_after, none_below, same_found, one_map}
use Rattle.sketchlet_wire.specs.Uploads.{UploadData}
use Rattle.column_book.specs.declared.entry.Entry.{Entry}
use Rattle.column_book.specs.declared.fault.BookFault.{BookFault}
use Rattle.column_book.specs.declared.fault.BookFault.TheVariants.{Conflict}
use Rattle.column_book.specs.Entries.{records, columns_of, columns_in, content}
use Rattle.column_book.specs.Applying.{new_columns, first_fault, conflict, differs, same_cells, column_with, entry_with, with_new, after_decision}
use Rattle.column_book.specs.Outcomes.{LawOfContents}
use Rattle.column_book.proofs.Keys.{one_key, is_at_key}
use Rattle.column_book.proofs.Contents.{found-insert}
use Rattle.column_book.proofs.Faults.{same_cells-Decides}
use Rattle.column_book.proofs.Applying.{taken}

-- ---- contents are in order

pub keys_total : IsTotalOrder key_cmp
keys_total = then_total (on_total (λ (k : Key). k.switch) nat_cmp_total) (then_total (on_total (λ (k : Key). k.epoch) nat_cmp_total) (on_total (λ (k : Key). k.index) nat_cmp_total))

abbrev at_key : Key → Key → Bool
at_key q k = is_at (key_cmp q) k

tied : (a b : Key) → key_cmp a b ≡ Equal → a ≡ b
tied a b h = one_key a b (sym (is_at_key a b) ∙ ap is_eq h)

tie : (o : Ordering) → is_eq o ≡ true → o ≡ Equal
tie Less h = absurd (cc)
tie Equal h = refl
tie Greater h = absurd (cc)

pub in_order : (m : Content) (cs : List Column) → InOrder key_cmp m → InOrder key_cmp (fold with_column m cs)
in_order m [] s = s
in_order m (c ∷ cs) s = in_order (with_column m c) cs (in_order_after keys_total m c.key c.cells s)

pub join_in_order : (m n : Content) → InOrder key_cmp m → InOrder key_cmp (join m n)
join_in_order m [] s = s
join_in_order m (p ∷ n) s = join_in_order (with_pair m p) n (in_order_after keys_total m p.0 p.1 s)

-- ---- what is found

-- the counters of the last column with a key
last_of : List Column → Key → Option Cells
last_of [] q = None
last_of (c ∷ cs) q = option_or (last_of cs q) (cond (at_key q c.key) (Some c.cells) None)

or_none : (o : Option Cells) → option_or o None ≡ o
or_none None = refl
or_none (Some bs) = refl

or_cond : (o : Option Cells) (b : Bool) (v : Cells) (rest : Option Cells) → option_or o (cond b (Some v) rest) ≡ option_or (option_or o (cond b (Some v) None)) rest
or_cond None true v rest = refl
or_cond None false v rest = refl
or_cond (Some u) b v rest = refl

found-fold : (m : Content) (cs : List Column) (q : Key) → found (fold with_column m cs) q ≡ option_or (last_of cs q) (found m q)
unfolding last_of
found-fold m [] q = refl
found-fold m (c ∷ cs) q =
    found-fold (with_column m c) cs q ∙ ap (option_or (last_of cs q)) (found-insert m c.key q c.cells) ∙ or_cond (last_of cs q) (at_key q c.key) c.cells (found m q)

found-columns-of : (cs : List Column) (q : Key) → found (content_of cs) q ≡ last_of cs q
found-columns-of cs q = found-fold [] cs q ∙ or_none (last_of cs q)

-- of the new ones only those under keys that the content lacks
last_new : (m : Content) (cs : List Column) (q : Key) → last_of (new_columns m cs) q ≡ cond (is_none (found m q)) (last_of cs q) None
unfolding last_of
last_new m [] q = (elim (is_none (found m q)) as (λ b. ◌≡◌ {A = Option Cells} None (cond b None None)) [
  | true ↦ refl
  | false ↦ refl
])
last_new m (c ∷ cs) q =
    let rest = last_new m cs q in
    (elim (at_key q c.key) as (λ t. at_key q c.key ≡ t → last_of (new_columns m (c ∷ cs)) q ≡ cond (is_none (found m q)) (option_or (last_of cs q) (cond t (Some c.cells) None)) None) [
      | true ↦ λ h. let one : q ≡ c.key = one_key q c.key (sym (is_at_key q c.key) ∙ h) in
          let alike : is_none (found m c.key) ≡ is_none (found m q) = ap (λ (k : Key). is_none (found m k)) (sym one) in
          rw alike ((elim (is_none (found m q)) as (λ b. last_of (new_columns m cs) q ≡ cond b (last_of cs q) None →
          last_of (cond b (c ∷ new_columns m cs) (new_columns m cs)) q ≡ cond b (option_or (last_of cs q) (Some c.cells)) None) [
            | true ↦ λ g. rw (h, g) refl
            | false ↦ λ g. g
          ]) rest)
      | false ↦ λ h. (elim (is_none (found m c.key)) as (λ b. last_of (cond b (c ∷ new_columns m cs) (new_columns m cs)) q ≡ cond (is_none (found m q)) (option_or (last_of cs q) None) None) [
        | true ↦ rw h (or_none (last_of (new_columns m cs) q) ∙ rest ∙ ap (λ o. cond (is_none (found m q)) o None) (sym (or_none (last_of cs q))))
        | false ↦ rest ∙ ap (λ o. cond (is_none (found m q)) o None) (sym (or_none (last_of cs q)))
      ])
    ]) refl

-- in a join the second's counters are found, else the first's
join_head : (o : Ordering) (v : Cells) (later here : Option Cells) → (o ≡ Equal → later ≡ None) →
    option_or later (cond (is_eq o) (Some v) here) ≡ option_or (cond (is_eq o) (Some v) later) here
join_head Less v later here none = refl
join_head Greater v later here none = refl
join_head Equal v later here none = ap (λ (x : Option Cells). option_or x (Some v)) (none refl)

pub found-join : (m n : Content) (q : Key) → InOrder key_cmp n → found (join m n) q ≡ option_or (found n q) (found m q)
found-join m [] q s = refl
found-join m (p ∷ n) q s =
    found-join (with_pair m p) n q s.1 ∙ ap (option_or (found n q)) (found_after keys_total m p.0 p.1 q)
    ∙ join_head (key_cmp q p.0) p.1 (found n q) (found m q) (λ same. same_found keys_total n q p.0 same ∙ none_below keys_total p.0 n s.0)

-- ---- an upload without conflict

abbrev Agree : Content → List Column → Type 0
Agree m cs = AllByRecursion (λ (c : Column). (v : Cells) → found m c.key ≡ Some v → v ≡ c.cells) cs

agree_all : (dims : Dims) (m : Content) (cs : List Column) → first_fault (conflict dims m) cs ≡ None → Agree m cs
agree_all dims m [] h = tt
agree_all dims m (c ∷ cs) h = (
  λ v is. (elim (same_cells v c.cells) as (λ b. same_cells v c.cells ≡ b →
      option_or (cond b None (Some (Conflict c.key (column_with c.key dims v) c))) (first_fault (conflict dims m) cs) ≡ None → v ≡ c.cells) [
        | true ↦ λ same g. (same_cells-Decides v c.cells).0 same
        | false ↦ λ same g. absurd (cc)
      ]) refl (subst (λ (o : Option Cells). option_or (differs dims c o) (first_fault (conflict dims m) cs) ≡ None) is h),
  agree_all dims m cs ((elim (conflict dims m c) as (λ (o : Option BookFault). option_or o (first_fault (conflict dims m) cs) ≡ None → first_fault (conflict dims m) cs ≡ None) [
    | None ↦ λ g. g
    | Some f ↦ λ g. absurd (cc)
  ]) h),
)

some_of : (v u : Cells) → Some v ≡ Some u → v ≡ u
some_of v u e = cc e

last_says : (m : Content) (cs : List Column) → Agree m cs → (k : Key) (v u : Cells) → found m k ≡ Some v → last_of cs k ≡ Some u → u ≡ v
unfolding last_of
last_says m [] all k v u has is = absurd (cc)
last_says m (c ∷ cs) all k v u has is =
    (elim (last_of cs k) as (λ (o : Option Cells). last_of cs k ≡ o → option_or o (cond (at_key k c.key) (Some c.cells) None) ≡ Some u → u ≡ v) [
      | None ↦ λ none g. (elim (at_key k c.key) as (λ b. at_key k c.key ≡ b → cond b (Some c.cells) None ≡ Some u → u ≡ v) [
        | true ↦ λ here e.
            let one : k ≡ c.key = one_key k c.key (sym (is_at_key k c.key) ∙ here) in
            sym (some_of c.cells u e) ∙ sym (all.0 v (subst (λ (q : Key). found m q ≡ Some v) one has))
        | false ↦ λ here e. absurd (cc)
      ]) refl g
      | Some w ↦ λ some g. last_says m cs all.1 k v u has (some ∙ g)
    ]) refl is

both_some : (o p : Option Cells) → ((v u : Cells) → o ≡ Some v → p ≡ Some u → u ≡ v) → IfSome o (λ v. IfSome p (λ u. u ≡ v))
both_some None p h = tt
both_some (Some v) None h = tt
both_some (Some v) (Some u) h = h v u refl refl

joinable : (m : Content) (cs : List Column) → Agree m cs → AreJoinable m (content_of cs)
joinable m cs all k = both_some (found m k) (found (content_of cs) k) (λ v u has is. last_says m cs all k v u has (sym (found-columns-of cs k) ∙ is))

join_by : (o last : Option Cells) → ((v u : Cells) → o ≡ Some v → last ≡ Some u → u ≡ v) → option_or (cond (is_none o) last None) o ≡ option_or last o
join_by None last same = refl
join_by (Some v) None same = refl
join_by (Some v) (Some u) same = ap (λ (x : Cells). Some x) (sym (same v u refl refl))

-- ---- the law

content_more : (es : List Entry) (e : Entry) → content (es ++ e ∷ []) ≡ fold with_column (content es) e.stored.columns
content_more es e =
    ap (λ (rs : List UploadData). content_of (columns_in rs)) (map-append (λ (x : Entry). x.stored) es (e ∷ []))
    ∙ ap content_of (flat_map-append (λ (r : UploadData). r.columns) (records es) (e.stored ∷ []) ∙ ap (λ (cs : List Column). columns_of es ++ cs) (append-nil e.stored.columns))
    ∙ fold-append with_column [] (columns_of es) e.stored.columns

content_new : (es : List Entry) (pass : ℕ) (u : UploadData) (new : List Column) → content (with_new es pass u new) ≡ fold with_column (content es) new
content_new es pass u [] = refl
content_new es pass u (c ∷ cs) = content_more es (entry_with pass u (c ∷ cs))

found_new : (m : Content) (cs : List Column) → Agree m cs → (q : Key) → found (fold with_column m (new_columns m cs)) q ≡ found (join m (content_of cs)) q
found_new m cs all q =
    found-fold m (new_columns m cs) q ∙ ap (λ (o : Option Cells). option_or o (found m q)) (last_new m cs q)
    ∙ join_by (found m q) (last_of cs q) (last_says m cs all q)
    ∙ ap (λ (o : Option Cells). option_or o (found m q)) (sym (found-columns-of cs q))
    ∙ sym (found-join m (content_of cs) q (in_order [] cs tt))

pub law : LawOfContents
law shape room es pass u new h =
    let m = content es in
    let t = taken shape room (records es) u new h in
    let all = agree_all (dims_of shape) m u.columns t.same in
    let ordered : InOrder key_cmp m = in_order [] (columns_of es) tt in
    let grown = fold with_column m (new_columns m u.columns) in
    let is : content (after_decision es pass u (Ok new)) ≡ grown = content_new es pass u new ∙ ap (fold with_column m) t.is in
    let same = found_new m u.columns all in
    record {
      joinable = joinable m u.columns all;
      joined = ap (λ d. content (after_decision es pass u d)) h ∙ is
          ∙ one_map keys_total tied grown (join m (content_of u.columns)) (in_order m (new_columns m u.columns) ordered) (join_in_order m (content_of u.columns) ordered)
          (λ q v g. sym (same q) ∙ g) (λ q v g. same q ∙ g);
    }
