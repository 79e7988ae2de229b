use Rattle.std.proofs.Common.{Some, refl, sym, ap, ◌∙◌, arith}
use Rattle.guardian_words.specs.declared.commands.Command.TheVariants.{Ask, List, Rebuild, Capture, Make}
use Rattle.guardian_run.specs.Changes.{change, disk_change}
use Rattle.guardian_run.specs.Outcomes.{reading_command, Captures, Lists, Rebuilds}
use Rattle.guardian_run.specs.Giving.{GivesOfText, GivesOfFile, GivesMade}
use Rattle.guardian_run.proofs.EndLemmas.{ends_given, ends_by, ends_unread, gives_make, gives_capture, gives_list, gives_rebuild}
use Rattle.guardian_run.proofs.top.guardian_read.Goals as goal

pub returns-in-Some-Ask-clause-ends : goal.returns-in-Some-Ask-clause-ends
returns-in-Some-Ask-clause-ends g c =
    let same = ap reading_command (sym c.command.ensures.value ∙ c.in-Some-Ask.is ∙ ap Some c.in-Some-Ask.field-0-is) in
    ends_given (λ text. text.items) _ Ask _ _ _ c.end.result c.ask.result same
    c.ask.ensures.output c.ask.ensures.refused c.end.ensures.output c.end.ensures.refused

pub returns-in-Some-List-clause-ends : goal.returns-in-Some-List-clause-ends
returns-in-Some-List-clause-ends g c =
    let same = ap reading_command (sym c.command.ensures.value ∙ c.in-Some-List.is ∙ ap Some c.in-Some-List.field-0-is) in
    let end = c.end-in-Some-List in
    let disk = disk_change g.D.Disk.honest g.D.Disk.seen g.D.Disk.faults c.args.disk.now c.list.new.disk in
    let source = change g.S.Source.left g.S.Source.faults c.args.source.now c.args.source.now in
    ends_by (λ text. text.items) _ List source _ disk end.result c.list.result (GivesOfFile Lists disk) same
    (λ o h. gives_list source disk o (record { bytes = refl; faults = refl }) (omega arith) h)
    c.list.ensures.output c.list.ensures.refused end.ensures.output end.ensures.refused

pub returns-in-Some-Rebuild-clause-ends : goal.returns-in-Some-Rebuild-clause-ends
returns-in-Some-Rebuild-clause-ends g c =
    let it = c.in-Some-Rebuild in
    let same = ap reading_command (sym c.command.ensures.value ∙ it.is ∙ ap Some it.field-0-is) in
    let end = c.end-in-Some-Rebuild in
    let disk = disk_change g.D.Disk.honest g.D.Disk.seen g.D.Disk.faults c.args.disk.now c.rebuild.new.disk in
    let source = change g.S.Source.left g.S.Source.faults c.args.source.now c.args.source.now in
    ends_by (λ text. text.items) _ (Rebuild it.switch it.epoch) source _ disk end.result c.rebuild.result (GivesOfFile (Rebuilds it.switch it.epoch) disk) same
    (λ o h. gives_rebuild it.switch it.epoch source disk o (record { bytes = refl; faults = refl }) (omega arith) h)
    c.rebuild.ensures.output c.rebuild.ensures.refused end.ensures.output end.ensures.refused

pub returns-in-Some-Capture-clause-ends : goal.returns-in-Some-Capture-clause-ends
returns-in-Some-Capture-clause-ends g c =
    let same = ap reading_command (sym c.command.ensures.value ∙ c.in-Some-Capture.is ∙ ap Some c.in-Some-Capture.field-0-is) in
    let end = c.end-in-Some-Capture in
    let disk = disk_change g.D.Disk.honest g.D.Disk.seen g.D.Disk.faults c.args.disk.now c.args.disk.now in
    let source = change g.S.Source.left g.S.Source.faults c.args.source.now c.capture.new.source in
    ends_by (λ text. text.items) _ Capture source _ disk end.result c.capture.result (GivesOfText Captures source) same
    (λ o h. gives_capture source disk o (omega arith) h)
    c.capture.ensures.output c.capture.ensures.refused end.ensures.output end.ensures.refused

pub returns-in-Some-Make-clause-ends : goal.returns-in-Some-Make-clause-ends
returns-in-Some-Make-clause-ends g c =
    let it = c.in-Some-Make in
    let same = ap reading_command (sym c.command.ensures.value ∙ it.is ∙ ap Some it.field-0-is) in
    let end = c.end-in-Some-Make in
    let disk = disk_change g.D.Disk.honest g.D.Disk.seen g.D.Disk.faults c.args.disk.now c.args.disk.now in
    let source = change g.S.Source.left g.S.Source.faults c.args.source.now c.args.source.now in
    ends_by (λ text. text.items) _ (Make it.rounds) source _ disk end.result c.make.result (GivesMade it.rounds) same
    (λ o h. gives_make it.rounds source disk o (record { bytes = refl; faults = refl }) (omega arith) (omega arith) h)
    c.make.ensures.output c.make.ensures.refused end.ensures.output end.ensures.refused

pub returns-in-Some-Demo-clause-ends : goal.returns-in-Some-Demo-clause-ends
returns-in-Some-Demo-clause-ends g c =
    let end = c.end-in-Some-Demo in
    let none = ap reading_command (sym c.command.ensures.value ∙ c.in-Some-Demo.is ∙ ap Some c.in-Some-Demo.field-0-is) in
    ends_unread _ _ _ _ end.result none (record { bytes = refl; faults = refl }) (omega arith) (omega arith) end.ensures.refused

pub returns-in-Some-Run-clause-ends : goal.returns-in-Some-Run-clause-ends
returns-in-Some-Run-clause-ends g c =
    let end = c.end-in-Some-Run in
    let none = ap reading_command (sym c.command.ensures.value ∙ c.in-Some-Run.is ∙ ap Some c.in-Some-Run.field-0-is) in
    ends_unread _ _ _ _ end.result none (record { bytes = refl; faults = refl }) (omega arith) (omega arith) end.ensures.refused

pub returns-in-None-clause-ends : goal.returns-in-None-clause-ends
returns-in-None-clause-ends g c =
    let end = c.end-in-None in
    let none = ap reading_command (sym c.command.ensures.value ∙ c.in-None.is) in
    ends_unread _ _ _ _ end.result none (record { bytes = refl; faults = refl }) (omega arith) (omega arith) end.ensures.refused
