use Rattle.std.proofs.Common.{rules, ◌≡◌, ◌<◌, true}
use Rattle.book_journal.specs.Runs.{JournalState}
use Rattle.lock_rule.specs.declared.view.Doing.TheVariants.{Idle}
use Rattle.lock_rule.proofs.Passing.{splits}
use Rattle.shared_book.specs.Going.{GoesOn}
use Rattle.shared_book.proofs.book.SharedBook.split.Goals as goal

pub split_seat-other-requires : goal.split_seat-other-requires
split_seat-other-requires g c =
    let v = c.into_seat-seat.result.me.0 in
    let alive : v.live ≡ true = search rules in
    let one : v.number ≡ 1 = search rules in
    let idle : v.doing ≡ Idle = search rules in
    let few : v.made < 65 = search rules in (
      search rules,
      search rules,
      splits (λ (j : JournalState g.row.D.Denot). j.entries) (λ (j : JournalState g.row.D.Denot). j.fault)
          (GoesOn g.D.Disk.honest g.D.Disk.seen g.D.Disk.images g.D.Disk.moment g.D.Disk.since g.D.Disk.faults c.self.inside.table.shared.key.value)
          c.self.inside.table.shared.key.value.entries _ v alive one idle few,
    )
