use Rattle.std.proofs.Common.{subst}
use Rattle.std.proofs.lemmas.Result.{err_from_is_err_and}
use Rattle.scenario_parts.specs.Whole.{IsWhole}
use Rattle.guardian_run.specs.declared.refusal.Refusal.TheVariants as refusals
use Rattle.guardian_run.specs.Refusals.{refusal_of}
use Rattle.guardian_run.specs.Outcomes.{Captures}
use Rattle.guardian_run.proofs.GivingLemmas.{err_gives, text_fault, text_memory, text_comes, captured}
use Rattle.guardian_run.proofs.capture.capture.Goals as goal

pub returns-in_err-scenario-clause-refused : goal.returns-in_err-scenario-clause-refused
returns-in_err-scenario-clause-refused g c =
    let p = err_from_is_err_and c.from_residual.result c.from_residual.ensures.1 in
    let fault = c.in_err-scenario.field-0.0 in
    let e = c.in_err-scenario.ensures in
    err_gives c.from_residual.result p.0 (refusal_of fault) _ p.1 p.2 (text_fault Captures _ fault e.says e.took e.fault e.never_falls)

pub returns-in_err-arrivals-clause-refused : goal.returns-in_err-arrivals-clause-refused
returns-in_err-arrivals-clause-refused g c =
    let r = c.from_residual-in_err-arrivals in
    let p = err_from_is_err_and r.result r.ensures.1 in
    err_gives r.result p.0 refusals.Memory _ p.1 p.2 (text_memory Captures _ c.read.ensures.never_falls)

pub returns-in_err-text-clause-refused : goal.returns-in_err-text-clause-refused
returns-in_err-text-clause-refused g c =
    let r = c.from_residual-in_err-text in
    let p = err_from_is_err_and r.result r.ensures.1 in
    err_gives r.result p.0 refusals.Memory _ p.1 p.2 (text_memory Captures _ c.read.ensures.never_falls)

pub returns-clause-output : goal.returns-clause-output
returns-clause-output g c =
    let w = c.in_ok-scenario.scenario in
    let says = c.in_ok-scenario.ensures in
    let whole = subst IsWhole c.scenario.view_is c.scenario.invariant in
    text_comes Captures _ w _ says.says says.took whole (captured w _ c.in_ok-text.ensures) (λ _. c.runs_are_true.ensures w whole) says.never_falls
