use Rattle.std.specs.Prelude.{List, Result, Ok, IfOk}
use Rattle.std.proofs.Common.{ap, subst, ◌∙◌}
use Rattle.lg_base.specs.Causes.{Rose}
use Rattle.lg_base.specs.declared.faults.Memory.{Memory}
use Rattle.column_book.specs.declared.entry.Entry.{Entry}
use Rattle.column_book.specs.Entries.{content}
use Rattle.guardian_run.specs.declared.telling.Told.{Told}
use Rattle.guardian_run.specs.Telling.{status_told, text_told, HasRun}
use Rattle.guardian_run.specs.Showing.{summary}
use Rattle.guardian_run.proofs.Told.{unbegun}
use Rattle.guardian_run.proofs.Showing.{starved_run}
use Rattle.guardian_run.proofs.demo.show.Goals as goal

pub returns-in-Err-clause-starved : goal.returns-in-Err-clause-starved
returns-in-Err-clause-starved g c =
    let j = c.args.journal in
    unbegun c.args.scenario.now j (Rose (g.D.Disk.faults j.disk) (g.D.Disk.faults j.disk)) c.requires.whole

pub returns-in-Ok-summary_text-clause-told : goal.returns-in-Ok-summary_text-clause-told
returns-in-Ok-summary_text-clause-told g c =
    let w = c.args.scenario.now in
    let old = c.args.journal in
    let new = c.tell_arrived-told.result.1 in
    let rose = Rose (g.D.Disk.faults old.disk) (g.D.Disk.faults new.disk) in
    let is = c.in-Ok-Report.is ∙ ap (λ (t : Told). Ok t) c.in-Ok-Report.field-0-is in (
      (
        c.in-Ok-Report.field-0-0.items,
        subst (λ (r : Result Told Memory). IfOk r (λ t. HasRun rose w old new (status_told t) (text_told t))) is c.tell_arrived-told.ensures.told,
      ),
      c.in-Ok-summary_text.ensures ∙ ap (λ (es : List Entry). summary c.args.rounds (content es) w) c.book.ensures.2,
    )

pub returns-in-Ok-Report-clause-starved : goal.returns-in-Ok-Report-clause-starved
returns-in-Ok-Report-clause-starved g c =
    let w = c.args.scenario.now in
    let old = c.args.journal in
    let new = c.tell_arrived-told.result.1 in
    let rose = Rose (g.D.Disk.faults old.disk) (g.D.Disk.faults new.disk) in
    let is = c.in-Ok-Report.is ∙ ap (λ (t : Told). Ok t) c.in-Ok-Report.field-0-is in
    starved_run rose w old new c.in-Ok-Report.field-0-0.items
    (subst (λ (r : Result Told Memory). IfOk r (λ t. HasRun rose w old new (status_told t) (text_told t))) is c.tell_arrived-told.ensures.told)
