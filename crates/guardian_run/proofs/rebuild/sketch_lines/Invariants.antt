use Rattle.std.specs.Prelude.{◌≡◌, ◌++◌}
use Rattle.std.specs.List.{flat_map, range_with_len}
use Rattle.report_text.specs.Columns.{rebuilt_line, row_line}
use Rattle.guardian_run.proofs.rebuild.sketch_lines.Given as goal

abbrev pub invariant-loop-row : goal.invariant-loop-row
invariant-loop-row l = l.text.items
    ≡ rebuilt_line l.switch l.epoch l.sketch.shape.rows l.sketch.shape.width ++ flat_map (row_line l.sketch) (range_with_len 0 l.row)
