use Rattle.std.proofs.Common.{rules, ◌≡◌, ◌+◌, true, length, ap}
use Rattle.book_journal.specs.Runs.{JournalState}
use Rattle.lock_rule.specs.declared.view.Doing.TheVariants.{Idle}
use Rattle.lock_rule.proofs.Passing.{ends}
use Rattle.shared_book.proofs.Closing.{closed, never_none}
use Rattle.shared_book.proofs.Turning.{Goes}
use Rattle.shared_book.proofs.book.SharedBook.close.Goals as goal

pub unreachable-requires : goal.unreachable-requires
unreachable-requires g c =
    let v = c.into_seat-seat.result.me.0 in
    let alive : v.live ≡ true = search rules in
    let one : v.number ≡ 1 = search rules in
    let idle : v.doing ≡ Idle = search rules in
    let all : length v.joined + 1 ≡ v.made = search rules in
    let key = c.self.inside.table.shared.key.value in
    never_none g.D.Disk.honest g.D.Disk.seen g.D.Disk.images g.D.Disk.moment g.D.Disk.since g.D.Disk.faults key v _ c.take-slot.result
    (ends (λ (j : JournalState g.row.D.Denot). j.entries) (λ (j : JournalState g.row.D.Denot). j.fault)
    (Goes g.D.Disk.honest g.D.Disk.seen g.D.Disk.images g.D.Disk.moment g.D.Disk.since g.D.Disk.faults key) key.entries _ v _ _ alive one idle all
    c.close_with-closed.ensures.values.2)
    c.take-slot.ensures.value c.in-None.is

pub returns-clause-closes : goal.returns-clause-closes
returns-clause-closes g c =
    let v = c.into_seat-seat.result.me.0 in
    let alive : v.live ≡ true = search rules in
    let one : v.number ≡ 1 = search rules in
    let idle : v.doing ≡ Idle = search rules in
    let all : length v.joined + 1 ≡ v.made = search rules in
    let key = c.self.inside.table.shared.key.value in
    let view : v ≡ c.args.pass.view = search rules in
    (closed g.D.Disk.honest g.D.Disk.seen g.D.Disk.images g.D.Disk.moment g.D.Disk.since g.D.Disk.faults key c.args.self.first v c.args.pass.view _
    c.take-slot.result c.in-Some.journal
    (ap (λ s. s.first) c.self.view_is) view
    (ends (λ (j : JournalState g.row.D.Denot). j.entries) (λ (j : JournalState g.row.D.Denot). j.fault)
    (Goes g.D.Disk.honest g.D.Disk.seen g.D.Disk.images g.D.Disk.moment g.D.Disk.since g.D.Disk.faults key) key.entries _ v _ _ alive one idle all
    c.close_with-closed.ensures.values.2)
    c.take-slot.ensures.value c.in-Some.is).closes

pub returns-clause-goes_on : goal.returns-clause-goes_on
returns-clause-goes_on g c =
    let v = c.into_seat-seat.result.me.0 in
    let alive : v.live ≡ true = search rules in
    let one : v.number ≡ 1 = search rules in
    let idle : v.doing ≡ Idle = search rules in
    let all : length v.joined + 1 ≡ v.made = search rules in
    let key = c.self.inside.table.shared.key.value in
    let view : v ≡ c.args.pass.view = search rules in
    (closed g.D.Disk.honest g.D.Disk.seen g.D.Disk.images g.D.Disk.moment g.D.Disk.since g.D.Disk.faults key c.args.self.first v c.args.pass.view _
    c.take-slot.result c.in-Some.journal
    (ap (λ s. s.first) c.self.view_is) view
    (ends (λ (j : JournalState g.row.D.Denot). j.entries) (λ (j : JournalState g.row.D.Denot). j.fault)
    (Goes g.D.Disk.honest g.D.Disk.seen g.D.Disk.images g.D.Disk.moment g.D.Disk.since g.D.Disk.faults key) key.entries _ v _ _ alive one idle all
    c.close_with-closed.ensures.values.2)
    c.take-slot.ensures.value c.in-Some.is).goes
