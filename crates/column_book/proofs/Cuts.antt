-- The columns of the entries that rows cut out of keys.
use Rattle.std.specs.Prelude.{◌≡◌, ℕ, ◌+◌, ◌≤◌, List, [], ◌∷◌, ◌++◌, map, drop, length, Option, None, Some, is_some}
use Rattle.std.specs.List.{list_any, IsDistinct}
use Rattle.std.specs.Option.{option_map}
use Rattle.std.proofs.Common.{refl, sym, ap, ◌∙◌, arith}
use Rattle.std.proofs.lemmas.List.{take-append-drop, drop-drop, drop_all, map-append, length-map}
use Rattle.lg_model.specs.declared.column.Bucket.{Bucket}
use Rattle.lg_model.specs.declared.column.Dims.{Dims}
use Rattle.lg_model.specs.declared.column.Key.{Key}
use Rattle.lg_model.specs.Answer.{content_of, found}
use Rattle.lg_model.specs.Columns.{Column}
use Rattle.sketchlet_wire.specs.Spelling.{cells_in}
use Rattle.sketchlet_wire.specs.Uploads.{same_column_key}
use Rattle.column_book.specs.declared.head.Row.{Row}
use Rattle.column_book.specs.Blocks.{Made, kept_at}
use Rattle.column_book.specs.Entries.{columns_of, content}
use Rattle.column_book.specs.Kept.{Shelf, shelf, column_under, keys_of_row, entries_of, IsCut, IsKept}
use Rattle.column_book.proofs.Contents.{found-kept}

-- all columns of the entries are those under the keys
pub columns_cut : (dims : Dims) (look : Shelf) (keys : List Key) (n : ℕ) (rows : List Row) → IsCut n rows (length keys) →
    columns_of (entries_of dims look keys rows) ≡ map (column_under dims look) (drop n keys)
columns_cut dims look keys n [] cut = sym (ap (map (column_under dims look)) (drop_all n keys (omega (arith, cut))))
columns_cut dims look keys n (r ∷ rs) cut =
    let rest = columns_cut dims look keys (n + r.head.count) rs cut.rest in
    ap (λ (cs : List Column). map (column_under dims look) (keys_of_row keys r) ++ cs) rest
    ∙ sym (map-append (column_under dims look) (keys_of_row keys r) (drop (n + r.head.count) keys))
    ∙ ap (map (column_under dims look)) (rw (cut.first, ← drop-drop r.head.count n keys) (take-append-drop r.head.count (drop n keys)))

pub columns_kept : (dims : Dims) (look : Shelf) (keys : List Key) (rows : List Row) → IsCut 0 rows (length keys) →
    columns_of (entries_of dims look keys rows) ≡ map (column_under dims look) keys
columns_kept dims look keys rows cut = columns_cut dims look keys 0 rows cut

-- there are as many columns as keys
pub count_kept : (dims : Dims) (look : Shelf) (keys : List Key) (rows : List Row) → IsCut 0 rows (length keys) →
    length (columns_of (entries_of dims look keys rows)) ≡ length keys
count_kept dims look keys rows cut = ap length (columns_kept dims look keys rows cut) ∙ length-map keys (column_under dims look)

-- rows are no more than keys
pub few_rows : (n len : ℕ) (rows : List Row) → IsCut n rows len → n + length rows ≤ len
few_rows n len [] cut = omega (arith, cut)
few_rows n len (r ∷ rs) cut = let rest = few_rows (n + r.head.count) len rs cut.rest in let some = cut.some in omega (arith, rest, some)

-- what is kept is the content of the entries
pub found_kept : (dims : Dims) (look : Shelf) (keys : List Key) (rows : List Row) → IsCut 0 rows (length keys) → ((k : Key) → is_some (look k) ≡ list_any (same_column_key k) keys) →
    (q : Key) → found (content (entries_of dims look keys rows)) q ≡ look q
found_kept dims look keys rows cut there q =
    ap (λ (cs : List Column). found (content_of cs) q) (columns_kept dims look keys rows cut) ∙ found-kept dims look keys there q

-- a shelf has a key where the blocks have it
pub on_shelf : (rows : ℕ) (es : Made) (k : Key) → is_some (shelf rows es k) ≡ is_some (kept_at es k)
on_shelf rows es k = elim (kept_at es k) as (λ (o : Option (List Bucket)). is_some (option_map (λ (bs : List Bucket). cells_in rows bs) o) ≡ is_some o) [
  | None ↦ refl
  | Some bs ↦ refl
]

-- a book with no column
pub empty_kept : (width room : ℕ) (es : Made) (keys : List Key) (rows : List Row) (ready : List Key) (a b : ℕ) →
    width ≤ 4096 → 1 ≤ room → room ≤ 262144 → es ≡ [] → keys ≡ [] → rows ≡ [] → ready ≡ [] → IsKept width room es keys rows ready a b
unfolding IsDistinct
empty_kept width room es keys rows ready a b wide some few e k r y = rw (e, k, r, y) (record {
  wide = wide;
  some_room = some;
  few_room = few;
  few = omega arith;
  known = record { apart = tt; there = λ q. refl };
  inside = tt;
  cut = refl;
  made = tt;
  keys_fit = omega arith;
  row_fits = λ h. absurd (omega (arith, h));
})
