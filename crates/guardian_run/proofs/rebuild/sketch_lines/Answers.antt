use Rattle.report_text.specs.Columns.{rebuilt_line, row_line}
use Rattle.guardian_run.proofs.Listing.{rows_more}
use Rattle.guardian_run.proofs.rebuild.sketch_lines.Goals as goal

pub loop-row-preserved : goal.loop-row-preserved
loop-row-preserved c =
    let s = c.args.sketch.now in
    rows_more (row_line s) c.loop-row.row (rebuilt_line c.args.switch c.args.epoch s.shape.rows s.shape.width) c.loop-row.text.items
    c.put_row_line.new.out.items c.loop-row.invariant c.in_ok-put_row_line.ensures
