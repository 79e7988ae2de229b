-- The entries of a book, and their content.
use Rattle.std.specs.Prelude.{◌≡◌, ◌≤◌, ℕ, ◌==◌, Bool, ◌&&◌, List, [], length, map, filter}
use Rattle.std.specs.List.{flat_map, IsDistinct, AllByRecursion}
use Rattle.lg_model.specs.declared.column.Key.{Key}
use Rattle.lg_model.specs.declared.limits.TheConstants.{MOST_UPLOAD_COLUMNS}
use Rattle.lg_model.specs.Placing.{Shape}
use Rattle.lg_model.specs.Columns.{Column, dims_of}
use Rattle.lg_model.specs.Answer.{Content, content_of}
use Rattle.sketchlet_wire.specs.Uploads.{UploadData, same_column_key, upload_of}
use Rattle.column_book.specs.declared.book.TheConstants.{ROOM}
use Rattle.column_book.specs.declared.entry.Entry.{Entry}
use Rattle.column_book.specs.declared.head.Head.{Head}

-- A book: the shape of its sketches, how many columns it may have, its entries, and its ready list.
pub record BookState : Type 0 where
  pub shape : Shape
  pub room : ℕ
  pub entries : List Entry
  pub ready : List Key

-- The entry of no columns, for a position that no entry has.
abbrev pub no_entry : Entry
no_entry = record { pass = 0; stored = upload_of 0 0 [] }

-- The front of an entry.
abbrev pub head_of : Entry → Head
head_of e = record { pass = e.pass; host = e.stored.host; seq = e.stored.seq; count = length e.stored.columns }

-- The records of entries: what was stored, whoever did it.
abbrev pub records : List Entry → List UploadData
records es = map (λ (e : Entry). e.stored) es

-- All columns of records, in order.
abbrev pub columns_in : List UploadData → List Column
columns_in rs = flat_map (λ (r : UploadData). r.columns) rs

-- The content of records: the finite map from key to counters of their columns.
abbrev pub content_in : List UploadData → Content
content_in rs = content_of (columns_in rs)

-- The columns and the content of entries are those of their records.
abbrev pub columns_of : List Entry → List Column
columns_of es = columns_in (records es)

abbrev pub content : List Entry → Content
content es = content_in (records es)

-- Whether a column is of that switch and epoch, and how many columns are.
abbrev pub is_of : (s e : ℕ) → Column → Bool
is_of s e c = s == c.key.switch && e == c.key.epoch

abbrev pub known_of : (s e : ℕ) → List Entry → ℕ
known_of s e es = length (filter (is_of s e) (columns_of es))

-- What holds of every book: 1 to ROOM columns have room, no more are there, no key stands twice, and each entry has 1 to 16
-- columns, all of the shape's size.
pub record IsBook (b : BookState) : Type 0 where
  pub some_room : 1 ≤ b.room
  pub few_room : b.room ≤ ROOM
  pub few : length (columns_of b.entries) ≤ b.room
  pub apart : IsDistinct same_column_key (map (λ (c : Column). c.key) (columns_of b.entries))
  pub fit : AllByRecursion (λ (c : Column). c.dims ≡ dims_of b.shape) (columns_of b.entries)
  pub counts : AllByRecursion (λ (e : Entry). (1 ≤ length e.stored.columns) × (length e.stored.columns ≤ MOST_UPLOAD_COLUMNS)) b.entries
