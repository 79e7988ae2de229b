-- What is read off the rows and keys of a book.
use Rattle.std.specs.Prelude.{◌≡◌, ℕ, zero, suc, ◌+◌, ◌<◌, ◌≤◌, true, List, [], ◌∷◌, map, drop, length, Option, None, Some, is_some, slice_index_or}
use Rattle.std.specs.List.{AllByRecursion, list_any, IsDistinct}
use Rattle.std.specs.Option.{unwrap_or, option_map}
use Rattle.std.proofs.Common.{refl, sym, ap, ◌∙◌, subst, arith}
use Rattle.std.proofs.lemmas.List.{length-map, length-drop, length-take-le, get_or-map, get_or-take, get_or-drop}
use Rattle.lg_model.specs.declared.column.Dims.{Dims}
use Rattle.lg_model.specs.declared.column.Key.{Key}
use Rattle.lg_model.specs.Placing.{Shape}
use Rattle.lg_model.specs.Columns.{Cells, Column, cells_of, dims_of}
use Rattle.sketchlet_wire.specs.Uploads.{same_column_key, no_column}
use Rattle.column_book.specs.declared.head.Row.{Row}
use Rattle.column_book.specs.Blocks.{Made}
use Rattle.column_book.specs.Entries.{content, no_entry, head_of, IsBook}
use Rattle.column_book.specs.declared.entry.Entry.{Entry}
use Rattle.column_book.specs.Kept.{Shelf, shelf, column_under, keys_of_row, entry_of, entries_of, IsCut, IsKept}
use Rattle.std.proofs.lemmas.Map.Made.{All-is_member}
use Rattle.lg_model.specs.Answer.{found}
use Rattle.column_book.proofs.Keys.{keys_equiv}
use Rattle.column_book.proofs.Cuts.{columns_kept, count_kept, few_rows, on_shelf}
use Rattle.column_book.proofs.Finding.{found_in_book}

-- a row's keys are there
pub record IsRow (len : ℕ) (r : Row) : Type 0 where
  pub inside : r.first + r.head.count ≤ len
  pub some : 1 ≤ r.head.count
  pub few : r.head.count ≤ 16

bound : (n len : ℕ) (rows : List Row) → IsCut n rows len → n ≤ len
bound n len rows cut = let few = few_rows n len rows cut in omega (arith, few)

pub row_at : (n len : ℕ) (rows : List Row) (i : ℕ) (d : Row) → IsCut n rows len → i < length rows → IsRow len (slice_index_or rows i d)
row_at n len [] i d cut low = absurd (omega (arith, low))
row_at n len (r ∷ rs) zero d cut low = let rest = bound (n + r.head.count) len rs cut.rest in let first = cut.first in record { inside = omega (arith, rest, first); some = cut.some; few = cut.few }
row_at n len (r ∷ rs) (suc i) d cut low = row_at (n + r.head.count) len rs i d cut.rest (omega (arith, low))

-- how many columns the entry of a row has
pub row_count : (dims : Dims) (look : Shelf) (keys : List Key) (r : Row) → IsRow (length keys) r → length (entry_of dims look keys r).stored.columns ≡ r.head.count
row_count dims look keys r h =
    length-map (keys_of_row keys r) (column_under dims look)
    ∙ length-take-le r.head.count (drop r.first keys) (let len = length-drop r.first keys in let inside = h.inside in omega (arith, len, inside))

counts : (dims : Dims) (look : Shelf) (keys : List Key) (n : ℕ) (rows : List Row) → IsCut n rows (length keys) → AllByRecursion (λ (e : Entry). (1 ≤ length e.stored.columns) × (length e.stored.columns ≤ 16)) (entries_of dims look keys rows)
counts dims look keys n [] cut = tt
counts dims look keys n (r ∷ rs) cut =
    let rest = bound (n + r.head.count) (length keys) rs cut.rest in
    let first = cut.first in
    let some = cut.some in
    let few = cut.few in
    let is = row_count dims look keys r (record { inside = omega (arith, rest, first); some = some; few = few }) in
    ((omega (arith, is, some), omega (arith, is, few)), counts dims look keys (n + r.head.count) rs cut.rest)

all_fit_under : (dims : Dims) (look : Shelf) (keys : List Key) → AllByRecursion (λ (c : Column). c.dims ≡ dims) (map (column_under dims look) keys)
all_fit_under dims look [] = tt
all_fit_under dims look (k ∷ ks) = (refl, all_fit_under dims look ks)

keys_again : (dims : Dims) (look : Shelf) (keys : List Key) → map (λ (c : Column). c.key) (map (column_under dims look) keys) ≡ keys
keys_again dims look [] = refl
keys_again dims look (k ∷ ks) = ap (λ (qs : List Key). k ∷ qs) (keys_again dims look ks)

-- what holds of every book
pub is_book : {a b : ℕ} (shape : Shape) (room : ℕ) (es : Made) (keys : List Key) (rows : List Row) (ready : List Key) → IsKept shape.width room es keys rows ready a b →
    IsBook (record { shape = shape; room = room; entries = entries_of (dims_of shape) (shelf shape.rows es) keys rows; ready = ready })
is_book shape room es keys rows ready h =
    let dims = dims_of shape in
    let look = shelf shape.rows es in
    let columns = columns_kept dims look keys rows h.cut in
    record {
      some_room = h.some_room;
      few_room = h.few_room;
      few = let few = h.few in let count = count_kept dims look keys rows h.cut in omega (arith, few, count);
      apart = subst (IsDistinct same_column_key) (sym (ap (map (λ (c : Column). c.key)) columns ∙ keys_again dims look keys)) h.known.apart;
      fit = subst (AllByRecursion (λ (c : Column). c.dims ≡ dims)) (sym columns) (all_fit_under dims look keys);
      counts = counts dims look keys 0 rows h.cut;
    }

-- the entry at a position is that of the row there
pub entry_at : (dims : Dims) (look : Shelf) (keys : List Key) (rows : List Row) (i : ℕ) (r : Row) → i < length rows → r ≡ slice_index_or rows i r →
    slice_index_or (entries_of dims look keys rows) i no_entry ≡ entry_of dims look keys r
entry_at dims look keys rows i r low at = get_or-map (entry_of dims look keys) rows i r no_entry low ∙ ap (entry_of dims look keys) (sym at)

pub row_here : (len : ℕ) (rows : List Row) (i : ℕ) (r : Row) → IsCut 0 rows len → i < length rows → r ≡ slice_index_or rows i r → IsRow len r
row_here len rows i r cut low at = subst (IsRow len) (sym at) (row_at 0 len rows i r cut low)

pub head_at : (dims : Dims) (look : Shelf) (keys : List Key) (rows : List Row) (i : ℕ) (r : Row) → IsCut 0 rows (length keys) → i < length rows → r ≡ slice_index_or rows i r →
    r.head ≡ head_of (slice_index_or (entries_of dims look keys rows) i no_entry)
head_at dims look keys rows i r cut low at =
    let count = row_count dims look keys r (row_here (length keys) rows i r cut low at) in
    (λ j. record { pass = r.head.pass; host = r.head.host; seq = r.head.seq; count = sym count j })
    ∙ sym (ap head_of (entry_at dims look keys rows i r low at))

pub column_in_row : (dims : Dims) (look : Shelf) (keys : List Key) (r : Row) (k : ℕ) (q : Key) → IsRow (length keys) r → k < r.head.count → q ≡ slice_index_or keys (r.first + k) q →
    slice_index_or (entry_of dims look keys r).stored.columns k no_column ≡ column_under dims look q
column_in_row dims look keys r k q h low at =
    get_or-map (column_under dims look) (keys_of_row keys r) k q no_column
    (let len = length-drop r.first keys in let inside = h.inside in let count = length-take-le r.head.count (drop r.first keys) (omega (arith, len, inside)) in omega (arith, count, low))
    ∙ ap (column_under dims look) (get_or-take r.head.count (drop r.first keys) k q low ∙ get_or-drop r.first keys k q ∙ sym at)

abbrev with_cells : Dims → Key → Cells → Column
with_cells dims q bs = record { key = q; dims = dims; cells = bs }

some_cells : (dims : Dims) (q : Key) (o : Option Cells) → is_some o ≡ true → option_map (with_cells dims q) o ≡ Some (with_cells dims q (unwrap_or o (cells_of [])))
some_cells dims q None e = absurd (cc)
some_cells dims q (Some bs) e = refl

-- a key that is kept is found
pub surely_found : {width room a b : ℕ} {ready : List Key} (dims : Dims) (es : Made) (keys : List Key) (rows : List Row) → IsKept width room es keys rows ready a b → (n : ℕ) (q : Key) → n < length keys → q ≡ slice_index_or keys n q →
    option_map (λ (bs : Cells). record { key = q; dims = dims; cells = bs }) (found (content (entries_of dims (shelf dims.rows es) keys rows)) q) ≡ Some (column_under dims (shelf dims.rows es) q)
surely_found dims es keys rows h n q low at =
    let member : list_any (same_column_key q) keys ≡ true = subst (λ (k : Key). list_any (same_column_key k) keys ≡ true) (sym at) (All-is_member keys_equiv keys n q low) in
    let some : is_some (shelf dims.rows es q) ≡ true = on_shelf dims.rows es q ∙ h.known.there q ∙ member in
    ap (option_map (with_cells dims q)) (found_in_book dims es keys rows h q) ∙ some_cells dims q (shelf dims.rows es q) some
