use Rattle.std.proofs.Common.{◌≡◌, get_or, ap, subst, ◌∙◌, arith}
use Rattle.lg_model.specs.declared.column.Dims.{Dims}
use Rattle.lg_model.specs.Columns.{Column}
use Rattle.sketchlet_wire.specs.Spelling.{IsColumn}
use Rattle.upload_frame.proofs.ColumnsOf.{length_more}
use Rattle.upload_frame.proofs.writing.columns_len.Goals as goal

pub loop-column-preserved : goal.loop-column-preserved
loop-column-preserved c =
    let cs = c.args.columns.now in
    let i = c.loop-column.column-index in
    let d = c.column-item.result in
    let is : IsColumn (get_or cs i d) = subst IsColumn c.column-item.is c.dims.ensures.admitted in
    let rows : c.dims.result.rows ≡ (get_or cs i d).dims.rows =
    ap (λ (x : Dims). x.rows) c.dims.ensures.value ∙ ap (λ (x : Column). x.dims.rows) c.column-item.is in
    let more = length_more cs i d c.loop-column-test.true is in
    (omega (arith, more, rows, c.from.ensures, c.loop-column.invariant.0), omega (arith, rows, c.from.ensures, is.few_rows, c.loop-column.invariant.1))
