use Rattle.std.specs.Prelude.{take}
use Rattle.std.specs.List.{flat_map}
use Rattle.std.proofs.lemmas.Result.{err_from_is_err_and}
use Rattle.text_out.proofs.Keeping.{keeps_after}
use Rattle.report_text.specs.Columns.{bucket_text}
use Rattle.report_text.proofs.columns.put_buckets.Goals as goal

pub returns-in_err-put_bucket : goal.returns-in_err-put_bucket
returns-in_err-put_bucket c =
    let failed = err_from_is_err_and c.from_residual.result c.from_residual.ensures.1 in
    rw failed.1 (keeps_after c.args.out.now.items (flat_map bucket_text (take c.loop-row.row c.args.column.now.cells.buckets)) c.loop-row.out.items c.put_bucket.new.out.items
    c.loop-row.invariant c.in_err-put_bucket.ensures)
