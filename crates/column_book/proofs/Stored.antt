-- A book after an upload was stored.
use Rattle.std.specs.Prelude.{◌≡◌, ℕ, zero, suc, ◌+◌, ◌<◌, ◌≤◌, Bool, true, false, cond, ◌||◌, List, [], ◌∷◌, ◌++◌, All, map, filter, take, drop, length, Option, None, Some, is_some, is_none, slice_index_or, if◌then◌else◌, nat_lt}
use Rattle.std.specs.List.{AllByRecursion, list_any, IsDistinct}
use Rattle.std.specs.Option.{option_map, unwrap_or}
use Rattle.std.proofs.Common.{refl, sym, ap, ◌∙◌, subst, arith, ltb-false}
use Rattle.std.proofs.lemmas.List.{map-append, length-map, take_all, take-append-le, drop-append-le, length-drop, get_or_default}
use Rattle.std.proofs.Math.Seq.{drop-append_seam}
use Rattle.std.proofs.lemmas.List.Elements.{All-from_recursion, recursion_from_All, All-take, All-drop, filter_agree}
use Rattle.std.proofs.lemmas.Map.Keys.{IsDistinct-push}
use Rattle.std.proofs.lemmas.Map.Made.{length-le_from_is_member, All-is_member}
use Rattle.lg_model.specs.declared.column.Bucket.{Bucket}
use Rattle.lg_model.specs.declared.column.Dims.{Dims}
use Rattle.lg_model.specs.declared.column.Key.{Key}
use Rattle.lg_model.specs.Placing.{Shape}
use Rattle.lg_model.specs.Answer.{Content, found}
use Rattle.sketchlet_wire.specs.Spelling.{IsColumn, filled, zeros, cells_in}
use Rattle.lg_model.specs.Columns.{Column, dims_of, cells_of}
use Rattle.sketchlet_wire.specs.Uploads.{UploadData, upload_of, IsFull, same_column_key, is_twice, no_column}
use Rattle.column_book.specs.declared.fault.BookFault.TheVariants.{Full}
use Rattle.column_book.specs.declared.head.Row.{Row}
use Rattle.column_book.specs.Blocks.{Made, kept_at, spot, IsMade}
use Rattle.column_book.specs.Entries.{records, columns_of, content}
use Rattle.column_book.specs.declared.entry.Entry.{Entry}
use Rattle.column_book.specs.Applying.{is_new, new_columns, stored_entry, full, checked, IsAddable, IsReady}
use Rattle.column_book.specs.Kept.{Shelf, shelf, column_under, keys_of_row, entry_of, entries_of, IsCut, AreKeys, IsKept, is_free, keys_of, IsGrown}
use Rattle.column_book.proofs.Keys.{one_key, key_itself, keys_equiv}
use Rattle.column_book.proofs.Cuts.{on_shelf, count_kept}
use Rattle.column_book.proofs.Finding.{found_in_book, holds_of_member}
use Rattle.column_book.proofs.Grown.{not_among, passes_more, passes_not, grown_count}
use Rattle.column_book.proofs.Faults.{all_fit}
use Rattle.column_book.proofs.Applying.{some_bit, ok_and, checked_ok}

-- ---- what a check that gives a mask says

-- of what a check that gives a mask other than 0 found
pub record IsFitting (shape : Shape) (room : ℕ) (es : List Entry) (cs : List Column) : Type 0 where
  pub dims : AllByRecursion (λ (c : Column). c.dims ≡ dims_of shape) cs
  pub room_left : length (columns_of es) + length (new_columns (content es) cs) ≤ room
  pub some : 1 ≤ length (new_columns (content es) cs)

not_full : (room held more : ℕ) → full room held more ≡ None → held + more ≤ room
not_full room held more h = (elim (nat_lt room (held + more)) as (λ b. nat_lt room (held + more) ≡ b → (if b then Some (Full held more) else None) ≡ None → held + more ≤ room) [
  | true ↦ λ low none. absurd (cc)
  | false ↦ λ low none. omega (arith, ltb-false _ _ low)
]) refl h

pub fitting : (shape : Shape) (room : ℕ) (es : List Entry) (u : UploadData) → IsAddable shape room (records es) u → IsFitting shape room es u.columns
fitting shape room es u h =
    let r = ok_and (checked shape room (records es) u) (λ k. 0 < k) h in
    let c = checked_ok shape room (records es) u r.0 r.1.0 in
    record {
      dims = all_fit (dims_of shape) u.columns c.is_taken.sized;
      room_left = not_full room (length (columns_of es)) (length (new_columns (content es) u.columns)) c.is_taken.fits;
      some = some_bit (is_new (content es)) u.columns (subst (λ n. 0 < n) (sym c.mask) r.1.1);
    }

-- ---- which columns are new

same_none : {A B : Type 0} (a : Option A) (b : Option B) → is_some a ≡ is_some b → is_none a ≡ is_none b
same_none None None h = refl
same_none None (Some y) h = absurd (cc)
same_none (Some x) None h = absurd (cc)
same_none (Some x) (Some y) h = refl

-- a key is free in the blocks where the content has none of it
pub free_is_new : {width room key_room row_room : ℕ} {ready : List Key} (dims : Dims) (es : Made) (keys : List Key) (rows : List Row) →
    IsKept width room es keys rows ready key_room row_room → (c : Column) → is_free es c ≡ is_new (content (entries_of dims (shelf dims.rows es) keys rows)) c
free_is_new dims es keys rows h c =
    same_none (kept_at es c.key) (found (content (entries_of dims (shelf dims.rows es) keys rows)) c.key)
    (sym (ap is_some (found_in_book dims es keys rows h c.key) ∙ on_shelf dims.rows es c.key))

-- what holds of those that pass holds of each that passes
pub of_passing : (p : Column → Bool) (P : Column → Type 0) (cs : List Column) → AllByRecursion P (filter p cs) → AllByRecursion (λ (c : Column). p c ≡ true → P c) cs
of_passing p P [] all = tt
of_passing p P (c ∷ cs) all = (elim (p c) as (λ b. p c ≡ b → AllByRecursion P (cond b (c ∷ filter p cs) (filter p cs)) → AllByRecursion (λ (x : Column). p x ≡ true → P x) (c ∷ cs)) [
  | true ↦ λ is both. (λ e. both.0, of_passing p P cs both.1)
  | false ↦ λ is rest. (λ e. absurd (cc), of_passing p P cs rest)
]) refl all

-- the keys of an upload's columns that pass are apart
distinct_front : (p : Column → Bool) (cs : List Column) → ((n : ℕ) → n < length cs → is_twice cs n ≡ false) → (m : ℕ) → m ≤ length cs → IsDistinct same_column_key (keys_of (filter p (take m cs)))
unfolding IsDistinct
distinct_front p cs apart zero low = tt
distinct_front p cs apart (suc m) low =
    let in_cs : m < length cs = omega (arith, low) in
    let c = slice_index_or cs m no_column in
    let at : c ≡ slice_index_or cs m c = get_or_default cs m no_column c in_cs in
    let before = distinct_front p cs apart m (omega (arith, low)) in
    let next : suc m ≡ m + 1 = omega arith in
    subst (λ k. IsDistinct same_column_key (keys_of (filter p (take k cs)))) (sym next)
    ((elim (p c) as (λ b. p c ≡ b → IsDistinct same_column_key (keys_of (filter p (take (m + 1) cs)))) [
      | true ↦ λ is. rw (passes_more p cs m c in_cs at is, map-append (λ (x : Column). x.key) (filter p (take m cs)) (c ∷ []))
          (IsDistinct-push keys_equiv (keys_of (filter p (take m cs))) c.key before (not_among p c.key (take m cs) (apart m in_cs)))
      | false ↦ λ is. rw (passes_not p cs m c in_cs at is) before
    ]) refl)

pub distinct_new : (p : Column → Bool) (cs : List Column) → ((n : ℕ) → n < length cs → is_twice cs n ≡ false) → IsDistinct same_column_key (keys_of (filter p cs))
distinct_new p cs apart = subst (λ (xs : List Column). IsDistinct same_column_key (keys_of (filter p xs))) (take_all (length cs) cs (omega arith)) (distinct_front p cs apart (length cs) (omega arith))

member_of_keys : (ks : List Key) (new : List Column) → AllByRecursion (λ (c : Column). list_any (same_column_key c.key) ks ≡ true) new → (q : Key) → list_any (same_column_key q) (keys_of new) ≡ true → list_any (same_column_key q) ks ≡ true
member_of_keys ks [] all q h = absurd (cc)
member_of_keys ks (c ∷ cs) all q h = (elim (same_column_key q c.key) as (λ b. same_column_key q c.key ≡ b → (b || list_any (same_column_key q) (keys_of cs)) ≡ true → list_any (same_column_key q) ks ≡ true) [
  | true ↦ λ same any. subst (λ (k : Key). list_any (same_column_key k) ks ≡ true) (sym (one_key q c.key same)) all.0
  | false ↦ λ same any. member_of_keys ks cs all.1 q any
]) refl h

-- new columns whose keys are apart and on the ready list are no more than it has
pub few_new : (ready : List Key) (new : List Column) → IsDistinct same_column_key (keys_of new) → AllByRecursion (λ (c : Column). list_any (same_column_key c.key) ready ≡ true) new → length new ≤ length ready
few_new ready new apart all =
    let le = length-le_from_is_member keys_equiv (keys_of new) ready apart (member_of_keys ready new all) in
    let len = length-map new (λ (c : Column). c.key) in
    omega (arith, le, len)

-- ---- the entries afterwards

cut_bound : (n len : ℕ) (rows : List Row) → IsCut n rows len → n ≤ len
cut_bound n len [] cut = omega (arith, cut)
cut_bound n len (r ∷ rs) cut = let rest = cut_bound (n + r.head.count) len rs cut.rest in omega (arith, rest)

pub cut_push : (n len count : ℕ) (rows : List Row) (r : Row) → IsCut n rows len → r.first ≡ len → r.head.count ≡ count → 1 ≤ count → count ≤ 16 → IsCut n (rows ++ r ∷ []) (len + count)
cut_push n len count [] r cut first is some few = record { first = first ∙ sym cut; some = omega (arith, some, is); few = omega (arith, few, is); rest = omega (arith, cut, is) }
cut_push n len count (q ∷ qs) r cut first is some few = record { first = cut.first; some = cut.some; few = cut.few; rest = cut_push (n + q.head.count) len count qs r cut.rest first is some few }

map_agree : (dims : Dims) (look other : Shelf) (ks : List Key) → AllByRecursion (λ (k : Key). other k ≡ look k) ks → map (column_under dims other) ks ≡ map (column_under dims look) ks
map_agree dims look other [] all = refl
map_agree dims look other (k ∷ ks) all = λ i. record { key = k; dims = dims; cells = unwrap_or (all.0 i) (cells_of []) } ∷ map_agree dims look other ks all.1 i

keys_stay : (keys new : List Key) (first count : ℕ) → first + count ≤ length keys → take count (drop first (keys ++ new)) ≡ take count (drop first keys)
keys_stay keys new first count h =
    ap (take count) (drop-append-le first keys new (omega (arith, h)))
    ∙ take-append-le count (drop first keys) new (let len = length-drop first keys in omega (arith, h, len))

-- earlier entries stay
pub entries_stay : (dims : Dims) (look other : Shelf) (keys new : List Key) (n : ℕ) (rows : List Row) → IsCut n rows (length keys) → All (λ (k : Key). other k ≡ look k) keys →
    entries_of dims other (keys ++ new) rows ≡ entries_of dims look keys rows
entries_stay dims look other keys new n [] cut all = refl
entries_stay dims look other keys new n (r ∷ rs) cut all =
    let bound = cut_bound (n + r.head.count) (length keys) rs cut.rest in
    let first = cut.first in
    let same : keys_of_row (keys ++ new) r ≡ keys_of_row keys r = keys_stay keys new r.first r.head.count (omega (arith, bound, first)) in
    let agree : AllByRecursion (λ (k : Key). other k ≡ look k) (keys_of_row keys r) = recursion_from_All (λ (k : Key). other k ≡ look k) (keys_of_row keys r)
    (All-take (λ (k : Key). other k ≡ look k) r.head.count (drop r.first keys) (All-drop (λ (k : Key). other k ≡ look k) r.first keys all)) in
    let columns : map (column_under dims other) (keys_of_row (keys ++ new) r) ≡ map (column_under dims look) (keys_of_row keys r) =
    ap (map (column_under dims other)) same ∙ map_agree dims look other (keys_of_row keys r) agree in
    let rest = entries_stay dims look other keys new (n + r.head.count) rs cut.rest all in
    λ i. record { pass = r.head.pass; stored = upload_of r.head.host r.head.seq (columns i) } ∷ rest i

-- what was kept is kept
pub shelf_stays : (rows : ℕ) (es0 : Made) (keys0 : List Key) (es : Made) (keys : List Key) (new : List Column) → AreKeys es0 keys0 → IsGrown es0 keys0 es keys new →
    All (λ (k : Key). shelf rows es k ≡ shelf rows es0 k) keys0
shelf_stays rows es0 keys0 es keys new known h = λ i d low.
    let k = slice_index_or keys0 i d in
    let had : is_some (kept_at es0 k) ≡ true = known.there k ∙ All-is_member keys_equiv keys0 i d low in
    (elim (kept_at es0 k) as (λ (o : Option (List Bucket)). kept_at es0 k ≡ o → is_some o ≡ true → shelf rows es k ≡ option_map (λ (bs : List Bucket). cells_in rows bs) o) [
      | None ↦ λ is some. absurd (cc)
      | Some bs ↦ λ is some. ap (option_map (λ (x : List Bucket). cells_in rows x)) (h.stays k bs is)
    ]) refl had

-- the columns under the new keys are the new columns
pub columns_new : (dims : Dims) (es : Made) (new : List Column) → AllByRecursion (λ (c : Column). kept_at es c.key ≡ Some (filled c.dims c.cells)) new →
    AllByRecursion (λ (c : Column). c.dims ≡ dims) new → AllByRecursion IsColumn new → map (column_under dims (shelf dims.rows es)) (keys_of new) ≡ new
columns_new dims es [] put fit all = refl
columns_new dims es (c ∷ cs) put fit all =
    let rest = columns_new dims es cs put.1 fit.1 all.1 in
    let len : length c.cells.buckets ≡ dims.rows = all.0.cells.buckets ∙ ap (λ (d : Dims). d.rows) fit.0 in
    let front : take dims.rows (filled c.dims c.cells) ≡ c.cells.buckets =
    take-append-le dims.rows c.cells.buckets (drop c.dims.rows zeros) (omega (arith, len)) ∙ take_all dims.rows c.cells.buckets (omega (arith, len)) in
    let kept : shelf dims.rows es c.key ≡ Some c.cells = ap (option_map (λ (x : List Bucket). cells_in dims.rows x)) put.0 ∙ ap (λ (x : List Bucket). Some (cells_of x)) front in
    λ i. record { key = c.key; dims = sym fit.0 i; cells = unwrap_or (kept i) (cells_of []) } ∷ rest i

all_filter : (P : Column → Type 0) (p : Column → Bool) (cs : List Column) → AllByRecursion P cs → AllByRecursion P (filter p cs)
all_filter P p [] all = tt
all_filter P p (c ∷ cs) all = elim (p c) as (λ b. AllByRecursion P (cond b (c ∷ filter p cs) (filter p cs))) [
  | true ↦ (all.0, all_filter P p cs all.1)
  | false ↦ all_filter P p cs all.1
]

inside_append : (width : ℕ) (keys : List Key) (new : List Column) → AllByRecursion (λ (k : Key). k.index < width) keys → AllByRecursion (λ (c : Column). c.key.index < width) new → AllByRecursion (λ (k : Key). k.index < width) (keys ++ keys_of new)
inside_append width [] [] a b = tt
inside_append width [] (c ∷ cs) a b = (b.0, inside_append width [] cs tt b.1)
inside_append width (k ∷ ks) new a b = (a.0, inside_append width ks new a.1 b)

inside_all : (dims : Dims) (cs : List Column) → AllByRecursion (λ (c : Column). c.dims ≡ dims) cs → AllByRecursion IsColumn cs → AllByRecursion (λ (c : Column). c.key.index < dims.width) cs
inside_all dims [] fit all = tt
inside_all dims (c ∷ cs) fit all = (subst (λ (d : Dims). c.key.index < d.width) fit.0 all.0.index, inside_all dims cs fit.1 all.1)

-- the keys of columns have each of them
all_listed : (ks : List Key) (cs : List Column) → ((q : Key) → list_any (same_column_key q) (keys_of cs) ≡ true → list_any (same_column_key q) ks ≡ true) → AllByRecursion (λ (c : Column). list_any (same_column_key c.key) ks ≡ true) cs
all_listed ks [] h = tt
all_listed ks (c ∷ cs) h = (
  h c.key (rw (key_itself c.key) refl),
  all_listed ks cs (λ q any. h q ((elim (same_column_key q c.key) as (λ b. (b || list_any (same_column_key q) (keys_of cs)) ≡ true) [
    | true ↦ refl
    | false ↦ any
  ]))),
)

pub all_ready_of : (ready : List Key) (cs : List Column) → ready ≡ keys_of cs → (m : Content) → IsReady ready m cs
all_ready_of ready cs is m = All-from_recursion (λ (c : Column). list_any (same_column_key c.key) ready ≡ true) (new_columns m cs)
    (all_filter (λ (c : Column). list_any (same_column_key c.key) ready ≡ true) (is_new m) cs (all_listed ready cs (λ q any. subst (λ (ks : List Key). list_any (same_column_key q) ks ≡ true) (sym is) any)))

-- ---- storing

-- A book's parts, and an upload that may be added.
pub record IsStorable (shape : Shape) (room : ℕ) (es : Made) (keys : List Key) (rows : List Row) (ready : List Key) (a b : ℕ) (u : UploadData) : Type 0 where
  pub kept : IsKept shape.width room es keys rows ready a b
  pub upload : IsFull u
  pub fits : IsAddable shape room (records (entries_of (dims_of shape) (shelf shape.rows es) keys rows)) u
  pub is_ready : All (λ (c : Column). list_any (same_column_key c.key) ready ≡ true) (new_columns (content (entries_of (dims_of shape) (shelf shape.rows es) keys rows)) u.columns)

module _ (shape : Shape) (room : ℕ) (es : Made) (keys : List Key) (rows : List Row) (ready : List Key) (a b : ℕ) (u : UploadData) (h : IsStorable shape room es keys rows ready a b u) where
  abbrev old : List Entry
  old = entries_of (dims_of shape) (shelf shape.rows es) keys rows

  abbrev free : List Column
  free = filter (is_free es) u.columns

  same_new : free ≡ new_columns (content old) u.columns
  same_new = filter_agree (is_free es) (is_new (content old)) (free_is_new (dims_of shape) es keys rows h.kept) u.columns

  is_fitting : IsFitting shape room old u.columns
  is_fitting = fitting shape room old u h.fits

  all_ready : AllByRecursion (λ (c : Column). list_any (same_column_key c.key) ready ≡ true) free
  all_ready = subst (AllByRecursion (λ (c : Column). list_any (same_column_key c.key) ready ≡ true)) (sym same_new)
      (recursion_from_All (λ (c : Column). list_any (same_column_key c.key) ready ≡ true) (new_columns (content old) u.columns) h.is_ready)

  few_ready : length free ≤ length ready
  few_ready = few_new ready free (distinct_new (is_free es) u.columns h.upload.columns.apart) all_ready

  some_free : 1 ≤ length free
  some_free = let some = is_fitting.some in let same = ap length same_new in omega (arith, some, same)

  pub blocks_made : All (λ (c : Column). kept_at es c.key ≡ None → IsMade es (spot c.key)) u.columns
  blocks_made = λ k d low.
      let c = slice_index_or u.columns k d in
      let ready_here : is_free es c ≡ true → list_any (same_column_key c.key) ready ≡ true =
      All-from_recursion (λ (x : Column). is_free es x ≡ true → list_any (same_column_key x.key) ready ≡ true) u.columns (of_passing (is_free es) (λ (x : Column). list_any (same_column_key x.key) ready ≡ true) u.columns all_ready) k d low in
      λ none. holds_of_member (λ (q : Key). IsMade es (spot q)) ready c.key h.kept.made (ready_here (ap is_none none))

  pub keys_room : length keys + length free ≤ a
  keys_room = let few = few_ready in let fit = h.kept.keys_fit in omega (arith, few, fit)

  pub rows_room : length rows < b
  rows_room = let few = few_ready in let some = some_free in h.kept.row_fits (omega (arith, few, some))

  module _ (es' : Made) (keys' : List Key) (r : Row) (grown : IsGrown es keys es' keys' free) (first : r.first ≡ length keys) (count : r.head.count ≡ length free) (few : r.head.count ≤ 16) where
    all_columns : AllByRecursion IsColumn u.columns
    all_columns = h.upload.each

    count_now : length keys' ≡ length keys + length free
    count_now = grown_count es keys es' keys' free grown

    held : length (columns_of old) ≡ length keys
    held = count_kept (dims_of shape) (shelf shape.rows es) keys rows h.kept.cut

    pub kept_stored : (ready' : List Key) (b' : ℕ) → ready' ≡ [] → IsKept shape.width room es' keys' (rows ++ r ∷ []) ready' a b'
    kept_stored ready' b' empty = rw empty (record {
      wide = h.kept.wide;
      some_room = h.kept.some_room;
      few_room = h.kept.few_room;
      few = let left = is_fitting.room_left in let same = ap length same_new in let now = count_now in let was = held in omega (arith, left, same, now, was);
      known = grown.known;
      inside = subst (AllByRecursion (λ (k : Key). k.index < shape.width)) (sym grown.all)
          (inside_append shape.width keys free h.kept.inside (all_filter (λ (c : Column). c.key.index < shape.width) (is_free es) u.columns (inside_all (dims_of shape) u.columns is_fitting.dims all_columns)));
      cut = subst (IsCut 0 (rows ++ r ∷ [])) (sym count_now) (cut_push 0 (length keys) (length free) rows r h.kept.cut first count some_free (let at_most = few in let is = count in omega (arith, at_most, is)));
      made = tt;
      keys_fit = let room_here = keys_room in let now = count_now in omega (arith, room_here, now);
      row_fits = λ low. absurd (omega (arith, low));
    })

    pub entries_stored : r.head.host ≡ u.host → r.head.seq ≡ u.seq →
        entries_of (dims_of shape) (shelf shape.rows es') keys' (rows ++ r ∷ []) ≡ old ++ stored_entry r.head.pass old u ∷ []
    entries_stored host seq =
        let look = shelf shape.rows es' in
        let agree = shelf_stays shape.rows es keys es' keys' free h.kept.known grown in
        let before : entries_of (dims_of shape) look keys' rows ≡ old =
        ap (λ (ks : List Key). entries_of (dims_of shape) look ks rows) grown.all ∙ entries_stay (dims_of shape) (shelf shape.rows es) look keys (keys_of free) 0 rows h.kept.cut agree in
        let mine : keys_of_row keys' r ≡ keys_of free =
        ap (λ (ks : List Key). keys_of_row ks r) grown.all ∙ ap (λ n. take r.head.count (drop n (keys ++ keys_of free))) first ∙ ap (take r.head.count) (drop-append_seam keys (keys_of free))
        ∙ take_all r.head.count (keys_of free) (let len = length-map free (λ (c : Column). c.key) in omega (arith, len, count)) in
        let columns : map (column_under (dims_of shape) look) (keys_of_row keys' r) ≡ new_columns (content old) u.columns =
        ap (map (column_under (dims_of shape) look)) mine
        ∙ columns_new (dims_of shape) es' free (recursion_from_All (λ (c : Column). kept_at es' c.key ≡ Some (filled c.dims c.cells)) free grown.put)
        (all_filter (λ (c : Column). c.dims ≡ dims_of shape) (is_free es) u.columns is_fitting.dims) (all_filter IsColumn (is_free es) u.columns all_columns)
        ∙ same_new in
        let last : entry_of (dims_of shape) look keys' r ≡ stored_entry r.head.pass old u = λ i. record { pass = r.head.pass; stored = upload_of (host i) (seq i) (columns i) } in
        map-append (entry_of (dims_of shape) look keys') rows (r ∷ []) ∙ (λ i. before i ++ last i ∷ [])
