-- What each command writes where it is not refused.
use Rattle.std.specs.Prelude.{ℕ, List, ◌++◌, length}
use Rattle.std.specs.List.{flat_map, enumerate_from, range_with_len}
use Rattle.lg_model.specs.declared.scenario.HostLine.{HostLine}
use Rattle.lg_model.specs.declared.column.Key.{Key}
use Rattle.lg_model.specs.declared.column.Dims.{Dims}
use Rattle.lg_model.specs.Scenario.{Scenario}
use Rattle.lg_model.specs.Carrying.{picked}
use Rattle.lg_model.specs.Arriving.{brought, brought_to_all}
use Rattle.lg_model.specs.Columns.{Cells, Column}
use Rattle.lg_model.specs.Answer.{Content}
use Rattle.sketchlet_wire.specs.Spelling.{spelling}
use Rattle.sumax_sketch.specs.SketchState.{SketchState}
use Rattle.column_book.specs.Applying.{column_with}
use Rattle.report_text.specs.Capture.{hex_line, sketchlets_line}
use Rattle.report_text.specs.Columns.{column_line, rebuilt_line, row_line}
use Rattle.report_text.specs.Report.{columns_line}

-- ---- `capture`

-- The lines of columns that came to the host of that name.
abbrev pub column_lines : ℕ → List Column → List ℕ
column_lines name cs = flat_map (λ (c : Column). hex_line name (spelling c)) cs

-- The lines of what came to a host, given with its position: the spellings of its brought columns.
abbrev pub host_lines : Scenario → ℕ × HostLine → List ℕ
host_lines w (h, host) = column_lines host.name (brought w (picked w) h)

-- Host after host in the order of declaration, and how many there are.
abbrev pub capture_of : Scenario → List ℕ
capture_of w = flat_map (host_lines w) (enumerate_from 0 w.hosts) ++ sketchlets_line
    (length (brought_to_all w (picked w)))

-- ---- `list`

-- The line of a pair of a content.
abbrev pub pair_line : Dims → Key × Cells → List ℕ
pair_line dims p = column_line (column_with p.0 dims p.1)

-- All columns of a content in the order of their keys, and how many there are.
abbrev pub list_of : Dims → Content → List ℕ
list_of dims content = flat_map (pair_line dims) content ++ columns_line (length content)

-- ---- `rebuild`

-- A sketch of the switch of that name and an epoch: its size, and row after row.
abbrev pub sketch_of : (switch epoch : ℕ) → SketchState → List ℕ
sketch_of s e sketch = rebuilt_line s e sketch.shape.rows sketch.shape.width ++ flat_map (row_line sketch)
    (range_with_len 0 sketch.shape.rows)
