-- Fault lines.
use Rattle.std.specs.Prelude.{ℕ, List, ◌++◌, codes}
use Rattle.std.specs.List.{flat_map}
use Rattle.std.specs.Fmt.{decimal}
use Rattle.scenario_lines.specs.declared.why.Why.{Why}
use Rattle.scenario_lines.specs.Whys.{why_text}
use Rattle.lg_model.specs.declared.column.Key.{Key}
use Rattle.lg_model.specs.Placing.{Shape}
use Rattle.lg_model.specs.Columns.{Column}
use Rattle.text_out.specs.Words.{field, joined, line}
use Rattle.text_out.specs.Shapes.{shape_words}
use Rattle.report_text.specs.Columns.{bucket_text}

-- The line where the words are no command.
abbrev pub usage_line : List ℕ
usage_line = line (codes "guardian: usage: guardian run, ask, list, rebuild S E, capture, make N, demo N")

-- The line where the source failed.
abbrev pub read_fault_line : List ℕ
read_fault_line = line (codes "guardian: read fault")

-- The line where memory ran out.
abbrev pub no_memory_line : List ℕ
no_memory_line = line (codes "guardian: no memory")

-- The line where the disk failed.
abbrev pub disk_fault_line : List ℕ
disk_fault_line = line (codes "guardian: disk fault")

-- The line where the book's file is neither blank nor a journal.
abbrev pub not_a_journal_line : List ℕ
not_a_journal_line = line (codes "guardian: not a journal")

-- The line where a sketch is to be rebuilt of a book that is blank.
abbrev pub blank_line : List ℕ
blank_line = line (codes "guardian: rebuild: the book is blank")

-- `guardian: shape R W HASH in the book, R W HASH asked`
unfoldable pub shape_line : (kept asked : Shape) → List ℕ
shape_line kept asked = line ((codes "guardian: shape " ++ joined (shape_words kept)) ++ (codes " in the book, " ++ joined (shape_words asked)) ++ codes " asked")

-- `guardian: damaged at N`, N being a place in the book's file, in bytes
unfoldable pub damaged_line : (at : ℕ) → List ℕ
damaged_line at = line (field (codes "guardian: damaged at ") at)

-- `guardian: rebuild: switch S epoch E has K of W columns`
unfoldable pub missing_line : (switch epoch known width : ℕ) → List ℕ
missing_line switch epoch known width = line ((field (codes "guardian: rebuild: switch ") switch ++ field (codes " epoch ") epoch)
    ++ (field (codes " has ") known ++ field (codes " of ") width) ++ codes " columns")

-- `guardian: scenario line L: WHY`, L being counted from 1
unfoldable pub scenario_line : ℕ × Why → List ℕ
scenario_line (n, why) = line (codes "guardian: scenario line " ++ decimal n ++ codes ": " ++ why_text why)

-- `guardian: full with H and M more`: the columns that a book has, and the new ones for which it has no room
unfoldable pub full_line : (held more : ℕ) → List ℕ
full_line held more = line (codes "guardian: full with " ++ decimal held ++ codes " and " ++ decimal more ++ codes " more")

-- `guardian: conflict at switch S epoch E column J kept LIST came LIST`: each LIST is the sum in bytes and the maximum in
-- microseconds of each row, of the column that the book keeps and of the one that came
unfoldable pub conflict_line : Key → (kept came : Column) → List ℕ
conflict_line key kept came =
    line ((field (codes "guardian: conflict at switch ") key.switch ++ field (codes " epoch ") key.epoch)
    ++ field (codes " column ") key.index ++ (codes " kept" ++ flat_map bucket_text kept.cells.buckets)
    ++ (codes " came" ++ flat_map bucket_text came.cells.buckets))
