use Rattle.std.proofs.Common.{rules, refl, ap, ◌∙◌}
use Rattle.book_journal.specs.Runs.{JournalState}
use Rattle.lock_rule.proofs.Turning.{passes}
use Rattle.shared_book.specs.Going.{GoesOn}
use Rattle.shared_book.proofs.turns.pass_on.Goals as goal

pub fetch_add-served-requires : goal.fetch_add-served-requires
fetch_add-served-requires g c =
    let held = c.give_back.ensures.held in (
      search rules,
      search rules,
      passes (λ (j : JournalState g.row.D.Denot). j.entries) (λ (j : JournalState g.row.D.Denot). j.fault)
          (GoesOn g.D.Disk.honest g.D.Disk.seen g.D.Disk.images g.D.Disk.moment g.D.Disk.since g.D.Disk.faults c.args.top.now.key.value)
          c.args.top.now.key.value.entries _ _ _
          c.requires.turn.0 c.args.journal.entries c.args.journal.fault c.args.journal
          (ap (λ m. m.0.live) held ∙ c.requires.live) (ap (λ m. m.0.doing) held ∙ c.requires.turn.1) (ap (λ m. m.1) held) refl refl c.requires.goes,
    )
