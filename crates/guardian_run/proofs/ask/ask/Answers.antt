use Rattle.std.proofs.Common.{arith}
use Rattle.std.proofs.lemmas.Result.{err_from_is_err_and}
use Rattle.column_book.specs.Entries.{records}
use Rattle.guardian_run.specs.declared.refusal.Refusal.TheVariants as refusals
use Rattle.guardian_run.specs.Refusals.{refusal_of}
use Rattle.guardian_run.proofs.GivingLemmas.{err_gives, ask_unread, ask_memory, ask_refused, ask_answered, text_fault}
use Rattle.guardian_run.proofs.ask.ask.Goals as goal

pub returns-in_err-scenario-clause-refused : goal.returns-in_err-scenario-clause-refused
returns-in_err-scenario-clause-refused g c =
    let p = err_from_is_err_and c.from_residual.result c.from_residual.ensures.1 in
    let fault = c.in_err-scenario.field-0.0 in
    let e = c.in_err-scenario.ensures in
    err_gives c.from_residual.result p.0 (refusal_of fault) _ p.1 p.2
    (ask_unread _ _ _ (omega arith) (text_fault _ _ fault e.says e.took e.fault e.never_falls) (λ h. cc))

pub returns-in_err-book-clause-refused : goal.returns-in_err-book-clause-refused
returns-in_err-book-clause-refused g c =
    let r = c.from_residual-in_err-book in
    let p = err_from_is_err_and r.result r.ensures.1 in
    let w = c.in_ok-scenario.scenario in
    let says = c.in_ok-scenario.ensures in
    let refusal = c.in_err-book.field-0.0 in
    err_gives r.result p.0 refusal _ p.1 p.2
    (ask_refused _ _ w c.shape.result refusal c.shape.ensures.value says.says says.took c.shape.ensures.whole c.in_err-book.ensures.refused
    says.never_falls c.book_under.ensures.never_falls)

pub returns-in_err-text-clause-refused : goal.returns-in_err-text-clause-refused
returns-in_err-text-clause-refused g c =
    let r = c.from_residual-in_err-text in
    let p = err_from_is_err_and r.result r.ensures.1 in
    err_gives r.result p.0 refusals.Memory _ p.1 p.2 (ask_memory _ _ c.read.ensures.never_falls c.book_under.ensures.never_falls)

pub returns-clause-output : goal.returns-clause-output
returns-clause-output g c =
    let w = c.in_ok-scenario.scenario in
    let says = c.in_ok-scenario.ensures in
    ask_answered _ _ w c.shape.result (records c.in_ok-book.book.entries) _ c.shape.ensures.value c.books_are_true.ensures says.says says.took
    c.shape.ensures.whole c.in_ok-book.ensures.found c.in_ok-text.ensures says.never_falls c.book_under.ensures.never_falls
