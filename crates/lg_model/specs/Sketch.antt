-- Tables of buckets, a row for each hash function, and what a packet does to one.
use Rattle.std.specs.Prelude.{◌≡◌, ◌<◌, length, ℕ, ◌+◌, ◌-◌, ◌^◌, List, [], map, take, replicate, slice_index, slice_index_or, slice_set, fold, min, max}
use Rattle.std.specs.List.{enumerate_from}
use Rattle.lg_model.specs.declared.column.Bucket.{Bucket}
use Rattle.lg_model.specs.declared.limits.TheConstants.{LAST_BYTES, LAST_DELAY}
use Rattle.lg_model.specs.Placing.{Shape, places_of}
use Rattle.lg_model.specs.Columns.{Cells}
use Rattle.lg_model.specs.Scenario.{Scenario}
use Rattle.lg_model.specs.Trace.{Observation, seen}

-- A table is a list of rows, each a list of buckets.
abbrev pub Table : Type 0
Table = List (List Bucket)

abbrev pub zero_bucket : Bucket
zero_bucket = record { bytes = 0; delay = 0 }

abbrev pub zero_table : Shape → Table
zero_table shape = replicate shape.rows (replicate shape.width zero_bucket)

-- The bucket of a row at an index.
abbrev pub bucket_in : List Bucket → ℕ → Bucket
bucket_in row j = slice_index_or row j zero_bucket

-- The bucket of row i at index j.
abbrev pub bucket_at : Table → ℕ → ℕ → Bucket
bucket_at table i j = bucket_in (slice_index_or table i []) j

-- A table has the rows and the width of a shape.
pub record IsTable (shape : Shape) (table : Table) : Type 0 where
  pub rows : length table ≡ shape.rows
  pub width : (i : ℕ) → i < shape.rows → length (slice_index_or table i []) ≡ shape.width

-- The column of a table at an index: the buckets there over all rows, row 0 first.
abbrev pub column_at : Table → ℕ → List Bucket
column_at table j = map (λ row. bucket_in row j) table

-- The sum of a row at a flow's place.
abbrev pub sum_in : (ℕ → ℕ) → ℕ × List Bucket → ℕ
sum_in at (i, row) = (bucket_in row (at i)).bytes

-- The old sums at a flow's places, row 0 first.
abbrev pub sums_at : (ℕ → ℕ) → Table → List ℕ
sums_at at table = map (sum_in at) (enumerate_from 0 table)

-- The least of the old sums in the rows up to row i.
abbrev pub least_to : (ℕ → ℕ) → Table → ℕ → ℕ
least_to at table i = fold min LAST_BYTES (take (i + 1) (sums_at at table))

-- A bucket after a packet: its sum is raised to the least old sum up to its row and the packet's size, its maximum to
-- the packet's delay, both no further than the counter's last value.
abbrev pub raised : Bucket → (least size delay : ℕ) → Bucket
raised b least size delay = record { bytes = max b.bytes (min LAST_BYTES (size + least)); delay = max b.delay (min delay LAST_DELAY) }

-- A row after a packet: the bucket at the flow's place is raised, and no other.
abbrev pub raised_row : (ℕ → ℕ) → Table → (size delay : ℕ) → ℕ × List Bucket → List Bucket
raised_row at table size delay (i, row) = slice_set row (at i) (raised (bucket_in row (at i)) (least_to at table i) size delay)

-- The table after a packet, `at` giving the flow's place in each row.
abbrev pub raise : (ℕ → ℕ) → (size delay : ℕ) → Table → Table
raise at size delay table = map (raised_row at table size delay) (enumerate_from 0 table)

abbrev pub raise_by : Shape → Table → Observation → Table
raise_by shape table x = raise (slice_index (places_of shape x.key)) x.size x.delay table

-- The table of all that a switch saw, from zeros.
abbrev pub table_of : Shape → List Observation → Table
table_of shape xs = fold (raise_by shape) (zero_table shape) xs

-- The sketch that the switch at position s froze at the end of epoch e.
abbrev pub frozen : Scenario → ℕ → ℕ → Table
frozen w s e = table_of w.shape (seen w s e)

-- Its counters at index j.
abbrev pub frozen_cells : Scenario → ℕ → ℕ → ℕ → Cells
frozen_cells w s e j = record { buckets = column_at (frozen w s e) j }
