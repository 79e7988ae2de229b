use Rattle.std.specs.Fmt.{digits}
use Rattle.report_text.specs.Report.{answer_line, columns_line}
use Rattle.report_text.specs.Columns.{column_line, rebuilt_line, row_line, acked_line}
use Rattle.report_text.specs.Capture.{hex_line, sketchlets_line}
use Rattle.hex.specs.Hex.{encode_with}
use Rattle.report_text.specs.Summary.{demo_line, packets_line, arrived_line, asks_line}
use Rattle.report_text.specs.Faults.{shape_line, damaged_line, missing_line, scenario_line, full_line, conflict_line}
use Rattle.std.proofs.Common.{refl}
use Rattle.worked_examples.proofs.texts.worked_lines.Goals as goal

pub returns : goal.returns
unfolding digits answer_line columns_line column_line rebuilt_line row_line acked_line hex_line sketchlets_line
    encode_with demo_line packets_line arrived_line asks_line shape_line damaged_line missing_line scenario_line
    full_line conflict_line
returns c = record {
  report_text = refl;
  column_text = refl;
  rebuilt = refl;
  rows = refl;
  acked = refl;
  hex = refl;
  sketchlets = refl;
  summary = refl;
  conflict = refl;
  full = refl;
  shapes = refl;
  damaged = refl;
  missing = refl;
  scenario = refl;
  plain = refl;
  why_texts = refl;
}
