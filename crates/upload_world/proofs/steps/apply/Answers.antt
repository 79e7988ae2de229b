use Rattle.std.proofs.Common.{◌∙◌, ℕ, Ok, Result, ap, sym}
use Rattle.column_book.specs.declared.fault.BookFault.{BookFault}
use Rattle.upload_world.proofs.Parts.{known_reply, known_entries}
use Rattle.upload_world.proofs.steps.apply.Goals as goal

abbrev masked : ℕ → Result ℕ BookFault
masked n = Ok n

pub returns-in-Ok-eq0-clause-reply : goal.returns-in-Ok-eq0-clause-reply
returns-in-Ok-eq0-clause-reply c =
    let b = c.args.book.now in
    known_reply b.shape b.room b.entries c.args.upload.now (sym c.check.ensures ∙ c.in-Ok-eq0.is
    ∙ ap masked c.in-Ok-eq0.field-0-test) _ c.reply-in-Ok-eq0.result c.reply-in-Ok-eq0.ensures

pub returns-in-Ok-eq0-clause-entries : goal.returns-in-Ok-eq0-clause-entries
returns-in-Ok-eq0-clause-entries c =
    let b = c.args.book.now in
    known_entries b.shape b.room b.entries c.args.upload.now
    (sym c.check.ensures ∙ c.in-Ok-eq0.is ∙ ap masked c.in-Ok-eq0.field-0-test) c.reply-in-Ok-eq0.result
