-- Uploads: 1 to 16 columns, no two of one key.
use Rattle.std.specs.Prelude.{◌≡◌, ℕ, ◌<◌, ◌≤◌, ◌^◌, Bool, false, ◌&&◌, ◌==◌, List, [], length, take, slice_index_or}
use Rattle.std.specs.List.{list_any, AllByRecursion}
use Rattle.lg_model.specs.declared.column.Key.{Key}
use Rattle.lg_model.specs.declared.limits.TheConstants.{MOST_UPLOAD_COLUMNS}
use Rattle.lg_model.specs.Columns.{Column}
use Rattle.sketchlet_wire.specs.Spelling.{IsColumn}

-- Whether two keys are one.
abbrev pub same_column_key : Key → Key → Bool
same_column_key a b = a.switch == b.switch && (a.epoch == b.epoch && a.index == b.index)

-- Whether a column of the list has that key.
abbrev pub holds_key : Key → List Column → Bool
holds_key key cs = list_any (λ (c : Column). same_column_key c.key key) cs

-- The column of no rows, for a position that no column has.
abbrev pub no_column : Column
no_column = record { key = record { switch = 0; epoch = 0; index = 0 }; dims = record { rows = 0; width = 0 }; cells = record { buckets = [] } }

-- Whether an earlier column has the key of the one at position n.
abbrev pub is_twice : List Column → ℕ → Bool
is_twice cs n = holds_key (slice_index_or cs n no_column).key (take n cs)

-- The columns of an upload: 1 to 16, no two of one key.
pub record IsUpload (cs : List Column) : Type 0 where
  pub some : 1 ≤ length cs
  pub few : length cs ≤ MOST_UPLOAD_COLUMNS
  pub apart : (n : ℕ) → n < length cs → is_twice cs n ≡ false

-- An upload: the host's name, the number of the upload at this host, from 0, and the columns in order.
pub record UploadData : Type 0 where
  pub host : ℕ
  pub seq : ℕ
  pub columns : List Column

abbrev pub upload_of : ℕ → ℕ → List Column → UploadData
upload_of host seq cs = record { host = host; seq = seq; columns = cs }

-- What every upload of the program is: numbers of 2 and 4 bytes, and columns that have a spelling.
pub record IsFull (u : UploadData) : Type 0 where
  pub host : u.host < 2 ^ 16
  pub seq : u.seq < 2 ^ 32
  pub columns : IsUpload u.columns
  pub each : AllByRecursion IsColumn u.columns
