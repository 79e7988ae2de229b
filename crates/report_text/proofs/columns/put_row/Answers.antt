use Rattle.std.proofs.lemmas.Result.{err_from_is_err_and}
use Rattle.text_out.proofs.Keeping.{keeps_after}
use Rattle.report_text.specs.Columns.{row_text}
use Rattle.report_text.proofs.Buckets.{row_more}
use Rattle.report_text.proofs.columns.put_row.Goals as goal

pub returns-in_err-put_bucket : goal.returns-in_err-put_bucket
returns-in_err-put_bucket c =
    let failed = err_from_is_err_and c.from_residual.result c.from_residual.ensures.1 in
    rw failed.1 (keeps_after c.args.out.now.items (row_text c.args.sketch.now c.args.row c.loop-index.index) c.loop-index.out.items c.put_bucket.new.out.items
    c.loop-index.invariant c.in_err-put_bucket.ensures)

pub loop-index-preserved : goal.loop-index-preserved
loop-index-preserved c =
    row_more c.args.sketch.now c.args.row c.loop-index.index c.bucket.result c.args.out.now.items c.loop-index.out.items c.put_bucket.new.out.items
    c.bucket.ensures c.loop-index.invariant c.in_ok-put_bucket.ensures
