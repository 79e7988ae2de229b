-- What the code keeps of a book, and the entries that it stands for.
use Rattle.std.specs.Prelude.{◌≡◌, ◌++◌, All, is_none, ℕ, ◌+◌, ◌<◌, ◌≤◌, List, [], ◌∷◌, length, map, take, drop, Option, Some, is_some, Bool}
use Rattle.std.specs.List.{AllByRecursion, list_any, IsDistinct}
use Rattle.std.specs.Option.{option_map, unwrap_or}
use Rattle.lg_model.specs.declared.column.Bucket.{Bucket}
use Rattle.lg_model.specs.declared.column.Dims.{Dims}
use Rattle.lg_model.specs.declared.column.Key.{Key}
use Rattle.sketchlet_wire.specs.Spelling.{filled, cells_in}
use Rattle.lg_model.specs.Columns.{Cells, Column, cells_of}
use Rattle.sketchlet_wire.specs.Uploads.{same_column_key, upload_of}
use Rattle.column_book.specs.declared.block.Spot.{Spot}
use Rattle.column_book.specs.declared.head.Row.{Row}
use Rattle.column_book.specs.Blocks.{Made, kept_at, spot, IsMade}
use Rattle.column_book.specs.declared.entry.Entry.{Entry}

-- What is kept under each key.
abbrev pub Shelf : Type 0
Shelf = Key → Option Cells

-- The counters under a key in blocks, as many as rows.
abbrev pub shelf : ℕ → Made → Shelf
shelf rows es k = option_map (λ (bs : List Bucket). cells_in rows bs) (kept_at es k)

-- The column under a key.
abbrev pub column_under : Dims → Shelf → Key → Column
column_under dims look k = record { key = k; dims = dims; cells = unwrap_or (look k) (cells_of []) }

-- The keys of a row.
abbrev pub keys_of_row : List Key → Row → List Key
keys_of_row keys r = take r.head.count (drop r.first keys)

-- The entry of a row.
abbrev pub entry_of : Dims → Shelf → List Key → Row → Entry
entry_of dims look keys r = record { pass = r.head.pass; stored = upload_of r.head.host r.head.seq (map (column_under dims look) (keys_of_row keys r)) }

abbrev pub entries_of : Dims → Shelf → List Key → List Row → List Entry
entries_of dims look keys rows = map (entry_of dims look keys) rows

-- Rows that cut that many keys from n on into pieces of 1 to 16.
abbrev pub IsCut : ℕ → List Row → ℕ → Type 0
IsCut n [] len = n ≡ len
IsCut n (r ∷ rs) len = record { first : r.first ≡ n; some : 1 ≤ r.head.count; few : r.head.count ≤ 16; rest : IsCut (n + r.head.count) rs len }

-- The keys of all columns that are kept, each once.
pub record AreKeys (es : Made) (keys : List Key) : Type 0 where
  pub apart : IsDistinct same_column_key keys
  pub there : (k : Key) → is_some (kept_at es k) ≡ list_any (same_column_key k) keys

-- What holds of the parts of a book.
pub record IsKept (width room : ℕ) (es : Made) (keys : List Key) (rows : List Row) (ready : List Key) (key_room row_room : ℕ) : Type 0 where
  pub wide : width ≤ 4096
  pub some_room : 1 ≤ room
  pub few_room : room ≤ 262144
  pub few : length keys ≤ room
  pub known : AreKeys es keys
  pub inside : AllByRecursion (λ (k : Key). k.index < width) keys
  pub cut : IsCut 0 rows (length keys)
  pub made : AllByRecursion (λ (k : Key). IsMade es (spot k)) ready
  pub keys_fit : length keys + length ready ≤ key_room
  pub row_fits : 0 < length ready → length rows < row_room

-- Whether nothing is kept under the key of a column.
abbrev pub is_free : Made → Column → Bool
is_free es c = is_none (kept_at es c.key)

-- What is kept under the key of a column, if anything, are the column's own buckets.
abbrev pub IsAsKept : Made → Column → Type 0
IsAsKept es c = (bs : List Bucket) → kept_at es c.key ≡ Some bs → bs ≡ filled c.dims c.cells

-- The keys of columns.
abbrev pub keys_of : List Column → List Key
keys_of cs = map (λ (c : Column). c.key) cs

-- Of blocks es0 with the keys keys0 the blocks es with these keys were made by putting new columns.
pub record IsGrown (es0 : Made) (keys0 : List Key) (es : Made) (keys : List Key) (new : List Column) : Type 0 where
  pub all : keys ≡ keys0 ++ keys_of new
  pub known : AreKeys es keys
  pub made : (s : Spot) → IsMade es0 s → IsMade es s
  pub stays : (q : Key) (bs : List Bucket) → kept_at es0 q ≡ Some bs → kept_at es q ≡ Some bs
  pub put : All (λ (c : Column). kept_at es c.key ≡ Some (filled c.dims c.cells)) new

-- Room for that many keys more, and for one row more.
pub record HasRoom (count keys key_room rows row_room ready ready_room : ℕ) : Type 0 where
  pub more_keys : keys + count ≤ key_room
  pub more_rows : rows < row_room
  pub more_ready : ready + count ≤ ready_room
