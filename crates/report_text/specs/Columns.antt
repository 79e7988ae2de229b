-- The lines of columns, of rebuilt sketches, and of acknowledged uploads. All words and numbers have one space between.
use Rattle.std.specs.Prelude.{ℕ, List, ◌++◌, map, codes}
use Rattle.std.specs.List.{flat_map, range_with_len}
use Rattle.lg_model.specs.declared.column.Bucket.{Bucket}
use Rattle.lg_model.specs.Columns.{Column}
use Rattle.lg_model.specs.Sketch.{bucket_at}
use Rattle.sumax_sketch.specs.SketchState.{SketchState}
use Rattle.text_out.specs.Words.{field, line}

-- ` B D`: the sum in bytes and the maximum in microseconds
abbrev pub bucket_text : Bucket → List ℕ
bucket_text b = field (codes " ") b.bytes ++ field (codes " ") b.delay

-- `column S E J`, then the buckets, row 0 first
unfoldable pub column_line : Column → List ℕ
column_line c = line ((field (codes "column ") c.key.switch ++ field (codes " ") c.key.epoch ++ field (codes " ") c.key.index)
    ++ flat_map bucket_text c.cells.buckets)

-- `rebuilt switch S epoch E rows R width W`
unfoldable pub rebuilt_line : (switch epoch rows width : ℕ) → List ℕ
rebuilt_line switch epoch rows width = line ((field (codes "rebuilt switch ") switch ++ field (codes " epoch ") epoch)
    ++ (field (codes " rows ") rows ++ field (codes " width ") width))

-- the buckets of a row of a sketch at the first n indexes
abbrev pub row_text : SketchState → (row n : ℕ) → List ℕ
row_text s row n = flat_map bucket_text (map (λ j. bucket_at s.table row j) (range_with_len 0 n))

-- `row I`, then the buckets of that row, index 0 first
unfoldable pub row_line : SketchState → (row : ℕ) → List ℕ
row_line s row = line (field (codes "row ") row ++ row_text s row s.shape.width)

-- `acked H Q`: the host's name and the number of the upload
unfoldable pub acked_line : (host seq : ℕ) → List ℕ
acked_line host seq = line (field (codes "acked ") host ++ field (codes " ") seq)
