use Rattle.std.proofs.Common.{subst}
use Rattle.std.specs.Prelude.{Option}
use Rattle.column_book.specs.Entries.{BookState}
use Rattle.guardian_run.specs.Changes.{disk_change}
use Rattle.guardian_run.specs.Looking.{IsHeld, IsBookOf}
use Rattle.guardian_run.proofs.GivingLemmas.{blank_listing}
use Rattle.guardian_run.proofs.list.list.Goals as goal

pub returns-in_default-clause-output : goal.returns-in_default-clause-output
returns-in_default-clause-output g c =
    let disk = disk_change g.D.Disk.honest g.D.Disk.seen g.D.Disk.faults c.args.disk.now c.book_on.new.disk in
    let found = subst (λ (o : Option BookState). IsHeld disk (IsBookOf o)) c.in_default.is c.in_ok-book.ensures.found in
    blank_listing disk c.in_ok-text.text.items found c.in_ok-text.ensures c.book_on.ensures.never_falls
