use Rattle.std.proofs.Common.{rules}
use Rattle.book_journal.specs.Runs.{JournalState}
use Rattle.lock_rule.proofs.Turning.{draws}
use Rattle.shared_book.specs.Going.{GoesOn}
use Rattle.shared_book.proofs.turns.draw_ticket.Goals as goal

pub fetch_add-requires : goal.fetch_add-requires
fetch_add-requires g c = (
  search rules,
  search rules,
  draws (λ (j : JournalState g.row.D.Denot). j.entries) (λ (j : JournalState g.row.D.Denot). j.fault)
      (GoesOn g.D.Disk.honest g.D.Disk.seen g.D.Disk.images g.D.Disk.moment g.D.Disk.since g.D.Disk.faults c.args.top.now.key.value)
      c.args.top.now.key.value.entries _ _ _ c.requires.live c.requires.idle c.requires.left,
)
