use Rattle.std.proofs.Common.{rules, ◌≡◌, ℕ, [], ◌∷◌, length, None, sym, subst}
use Rattle.atomic_table.specs.Table.{opening}
use Rattle.book_journal.specs.Runs.{JournalState}
use Rattle.lock_rule.specs.declared.view.Doing.TheVariants.{Drew}
use Rattle.lock_rule.specs.Rules.{Locked}
use Rattle.lock_rule.specs.Views.{new_pass}
use Rattle.lock_rule.proofs.Passing.{starts}
use Rattle.shared_book.specs.Going.{GoesOn}
use Rattle.shared_book.proofs.book.share.Goals as goal

pub vacant-requires : goal.vacant-requires
vacant-requires g c =
    let few : c.records-records.result ≡ length c.of-about.result.value.entries = search rules in
    subst (λ (n : ℕ). Locked (λ (j : JournalState g.row.D.Denot). j.entries) (λ (j : JournalState g.row.D.Denot). j.fault)
    (GoesOn g.D.Disk.honest g.D.Disk.seen g.D.Disk.images g.D.Disk.moment g.D.Disk.since g.D.Disk.faults c.of-about.result.value)
    c.of-about.result.value.entries
    (opening (1 ∷ 0 ∷ n ∷ 0 ∷ []) (None ∷ []) (new_pass 1 (Drew 0) c.of-about.result.value.entries 1))) (sym few)
    (starts (λ (j : JournalState g.row.D.Denot). j.entries) (λ (j : JournalState g.row.D.Denot). j.fault)
    (GoesOn g.D.Disk.honest g.D.Disk.seen g.D.Disk.images g.D.Disk.moment g.D.Disk.since g.D.Disk.faults c.of-about.result.value)
    c.of-about.result.value.entries)
