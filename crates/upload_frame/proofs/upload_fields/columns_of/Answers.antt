use Rattle.std.proofs.Common.{◌∷◌, [], arith, ◌∙◌, sym, length-append, true, false}
use Rattle.std.proofs.lemmas.Result.{err_from_is_err_and}
use Rattle.upload_frame.specs.Frames.{columns_at}
use Rattle.upload_frame.proofs.ColumnsOf.{goes_on, ends, is_done, is_upload}
use Rattle.upload_frame.proofs.upload_fields.columns_of.Goals as goal

pub loop-nth-preserved : goal.loop-nth-preserved
loop-nth-preserved c =
    let e = rw c.deref.ensures.value at c.in_ok-column.ensures.gives in
    let more = goes_on c.args.len c.args.count c.loop-nth.nth c.loop-nth.columns.items c.loop-nth.rest.now c.in_ok-column.column c.in_ok-column.used
    (columns_at c.args.len c.args.count [] c.args.body.now) c.loop-nth-test.true e c.loop-nth.invariant.1 in
    rw (c.in_ok-push.ensures.items, c.past-rest.ensures)
    (omega (arith, length-append c.loop-nth.columns.items (c.in_ok-column.column ∷ []), c.loop-nth.invariant.0), more)

pub returns-in_err-column-clause-gives : goal.returns-in_err-column-clause-gives
returns-in_err-column-clause-gives c =
    let e = rw c.deref.ensures.value at c.in_err-column.ensures.gives in
    let p = err_from_is_err_and c.from_residual-in_err-column.result c.from_residual-in_err-column.ensures.1 in
    rw (p.1, p.2) (ends c.args.len c.args.count c.loop-nth.nth c.loop-nth.columns.items c.loop-nth.rest.now c.in_err-column.field-0.0
    (columns_at c.args.len c.args.count [] c.args.body.now) c.loop-nth-test.true e c.loop-nth.invariant.1)

pub returns-then-not-is_empty-clause-gives : goal.returns-then-not-is_empty-clause-gives
returns-then-not-is_empty-clause-gives c =
    is_done c.args.len c.args.count c.loop-nth.nth c.loop-nth.columns.items c.loop-nth.rest.now
    (columns_at c.args.len c.args.count [] c.args.body.now) false c.loop-nth-test.false (sym c.is_empty.ensures
    ∙ c.if-not-is_empty.true) c.loop-nth.invariant.1

pub returns-clause-gives : goal.returns-clause-gives
returns-clause-gives c =
    is_done c.args.len c.args.count c.loop-nth.nth c.loop-nth.columns.items c.loop-nth.rest.now
    (columns_at c.args.len c.args.count [] c.args.body.now) true c.loop-nth-test.false (sym c.is_empty.ensures
    ∙ c.if-not-is_empty.false) c.loop-nth.invariant.1

pub returns-clause-apart : goal.returns-clause-apart
returns-clause-apart c =
    is_upload c.args.len c.args.count c.args.body.now c.loop-nth.columns.items
    (is_done c.args.len c.args.count c.loop-nth.nth c.loop-nth.columns.items c.loop-nth.rest.now
    (columns_at c.args.len c.args.count [] c.args.body.now) true c.loop-nth-test.false (sym c.is_empty.ensures
    ∙ c.if-not-is_empty.false) c.loop-nth.invariant.1)
    c.requires.some c.requires.few
