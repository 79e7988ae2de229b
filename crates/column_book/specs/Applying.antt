-- What an upload does to a list of entries.
use Rattle.std.specs.Prelude.{◌≡◌, ℕ, ◌+◌, ◌*◌, ◌<◌, ◌==◌, nat_lt, Bool, true, ◌&&◌, List, [], ◌∷◌, ◌++◌, length, map, filter, All, Option, None, Some, is_none, Result, Ok, Err, IsOkAnd, if◌then◌else◌}
use Rattle.std.specs.List.{list_any}
use Rattle.std.specs.Option.{option_or}
use Rattle.std.specs.Cmp.Lexicographic.{pointwise}
use Rattle.lg_model.specs.declared.column.Bucket.{Bucket}
use Rattle.lg_model.specs.declared.column.Dims.{Dims}
use Rattle.lg_model.specs.declared.column.Key.{Key}
use Rattle.lg_model.specs.Placing.{Shape}
use Rattle.lg_model.specs.Columns.{Cells, Column, dims_of}
use Rattle.lg_model.specs.Answer.{Content, found}
use Rattle.sketchlet_wire.specs.Uploads.{UploadData, same_column_key, upload_of}
use Rattle.column_book.specs.declared.entry.Entry.{Entry}
use Rattle.column_book.specs.declared.fault.BookFault.{BookFault}
use Rattle.column_book.specs.declared.fault.BookFault.TheVariants.{WrongShape, Conflict, Full}
use Rattle.column_book.specs.Entries.{records, columns_in, content_in, content}

-- Whether no column of that key is in the content.
abbrev pub is_new : Content → Column → Bool
is_new m c = is_none (found m c.key)

-- The columns whose key isn't in the content, in order.
abbrev pub new_columns : Content → List Column → List Column
new_columns m cs = filter (is_new m) cs

abbrev pub same_dims : Dims → Dims → Bool
same_dims a b = a.rows == b.rows && a.width == b.width

abbrev pub same_bucket : Bucket → Bucket → Bool
same_bucket a b = a.bytes == b.bytes && a.delay == b.delay

abbrev pub same_cells : Cells → Cells → Bool
same_cells a b = pointwise same_bucket a.buckets b.buckets

-- The fault of a column of other rows or width than the shape's.
abbrev pub misfit : Dims → Column → Option BookFault
misfit dims c = if same_dims c.dims dims then None else Some (WrongShape dims c.dims)

-- The column of a key, a size and counters.
abbrev pub column_with : Key → Dims → Cells → Column
column_with key dims cells = record { key = key; dims = dims; cells = cells }

-- The fault of a column whose key is kept with other counters.
abbrev pub differs : Dims → Column → Option Cells → Option BookFault
differs dims c None = None
differs dims c (Some kept) = if same_cells kept c.cells then None else Some (Conflict c.key (column_with c.key dims kept) c)

abbrev pub conflict : Dims → Content → Column → Option BookFault
conflict dims m c = differs dims c (found m c.key)

-- The first fault of columns, from left to right.
abbrev pub first_fault : (Column → Option BookFault) → List Column → Option BookFault
first_fault f [] = None
first_fault f (c ∷ cs) = option_or (f c) (first_fault f cs)

-- The fault of more columns than there is room for.
abbrev pub full : (room held more : ℕ) → Option BookFault
full room held more = if nat_lt room (held + more) then Some (Full held more) else None

-- A fault, where there is one.
abbrev pub or_fault : {A : Type 0} → Option BookFault → Result A BookFault → Result A BookFault
or_fault None r = r
or_fault (Some f) r = Err f

-- What an upload comes to: the first fault by shape, else the first by conflict, else that the room is too small, else the
-- new columns in order, none where all are known.
abbrev pub decide : Shape → (room : ℕ) → List UploadData → UploadData → Result (List Column) BookFault
decide shape room rs u =
    or_fault (first_fault (misfit (dims_of shape)) u.columns)
    (or_fault (first_fault (conflict (dims_of shape) (content_in rs)) u.columns)
    (or_fault (full room (length (columns_in rs)) (length (new_columns (content_in rs) u.columns)))
    (Ok (new_columns (content_in rs) u.columns))))

-- The number whose bit k is set exactly where the k-th of these is true.
abbrev pub mask_of : List Bool → ℕ
mask_of [] = 0
mask_of (b ∷ bs) = (if b then 1 else 0) + 2 * mask_of bs

abbrev pub masked : (mask : ℕ) → Result (List Column) BookFault → Result ℕ BookFault
masked mask (Ok new) = Ok mask
masked mask (Err f) = Err f

-- The same, told by a mask: its bit k is set exactly where column k of the upload is new.
abbrev pub checked : Shape → (room : ℕ) → List UploadData → UploadData → Result ℕ BookFault
checked shape room rs u = masked (mask_of (map (is_new (content_in rs)) u.columns)) (decide shape room rs u)

-- The entry of new columns of an upload.
abbrev pub entry_with : (pass : ℕ) → UploadData → List Column → Entry
entry_with pass u new = record { pass = pass; stored = upload_of u.host u.seq new }

-- The entry that an upload becomes: its columns whose key the entries lack.
abbrev pub stored_entry : (pass : ℕ) → List Entry → UploadData → Entry
stored_entry pass es u = entry_with pass u (new_columns (content es) u.columns)

abbrev pub with_new : List Entry → (pass : ℕ) → UploadData → List Column → List Entry
with_new es pass u [] = es
with_new es pass u (c ∷ cs) = es ++ entry_with pass u (c ∷ cs) ∷ []

abbrev pub after_decision : List Entry → (pass : ℕ) → UploadData → Result (List Column) BookFault → List Entry
after_decision es pass u (Err f) = es
after_decision es pass u (Ok new) = with_new es pass u new

-- The entries after an upload: as they were at a fault and where nothing is new, else with one entry more at the end.
abbrev pub after : Shape → (room : ℕ) → List Entry → (pass : ℕ) → UploadData → List Entry
after shape room es pass u = after_decision es pass u (decide shape room (records es) u)

-- The new ones of these columns are on the ready list.
abbrev pub IsReady : List Key → Content → List Column → Type 0
IsReady ready m cs = All (λ (c : Column). list_any (same_column_key c.key) ready ≡ true) (new_columns m cs)

-- An upload may be added: a check gives a mask other than 0.
abbrev pub IsAddable : Shape → (room : ℕ) → List UploadData → UploadData → Type 0
IsAddable shape room rs u = IsOkAnd (checked shape room rs u) (λ m. 0 < m)
