use Rattle.std.proofs.Common.{rules, ◌≡◌, ◌≤◌, length, sym, ap, subst, ◌∙◌, Option}
use mathlib.Core.List.{IsPrefix}
use Rattle.atomic_table.specs.Table.{Me}
use Rattle.lock_rule.specs.declared.view.View.{View}
use Rattle.book_journal.specs.Runs.{JournalState}
use Rattle.lock_rule.specs.Views.{joined_of, longer, of}
use Rattle.lock_rule.proofs.Passing.{joins, gains}
use Rattle.shared_book.specs.Going.{GoesOn}
use Rattle.shared_book.proofs.turns.take_in.Goals as goal

pub join_seat-requires : goal.join_seat-requires
join_seat-requires g c = (
  search rules,
  search rules,
  search rules,
  search rules,
  joins (λ (j : JournalState g.row.D.Denot). j.entries) (λ (j : JournalState g.row.D.Denot). j.fault)
      (GoesOn g.D.Disk.honest g.D.Disk.seen g.D.Disk.images g.D.Disk.moment g.D.Disk.since g.D.Disk.faults c.args.top.now.key.value)
      c.args.top.now.key.value.entries _ _ _ _ c.requires.live.0 c.requires.numbers.0 c.requires.idle.0 c.requires.live.1 c.requires.numbers.1
      c.requires.idle.1,
)

pub load-requires : goal.load-requires
load-requires g c =
    let now = c.join_seat.ensures.2 in (
      search rules,
      search rules,
      gains (λ (j : JournalState g.row.D.Denot). j.entries) (λ (j : JournalState g.row.D.Denot). j.fault)
          (GoesOn g.D.Disk.honest g.D.Disk.seen g.D.Disk.images g.D.Disk.moment g.D.Disk.since g.D.Disk.faults c.args.top.now.key.value)
          c.args.top.now.key.value.entries _ _ _
          (joined_of c.args.other.me.0) c.args.seat.now.me.0.joined
          (ap (λ m. m.0.live) now ∙ c.requires.live.0) (ap (λ m. m.0.number) now ∙ c.requires.numbers.0) (ap (λ m. m.0.doing) now ∙ c.requires.idle.0)
          (ap (λ m. m.0.joined) now),
    )

pub returns-clause-hand : goal.returns-clause-hand
returns-clause-hand g c =
    let now = c.join_seat.ensures.2 in
    let did = c.load.ensures.2 (joined_of c.args.other.me.0) c.args.seat.now.me.0.joined (ap (λ m. m.0.joined) now) in
    did.1 ∙ (ap (λ m. m.1) now ∙ c.requires.hands.0)

pub returns-clause-joins : goal.returns-clause-joins
returns-clause-joins g c =
    let now = c.join_seat.ensures.2 in
    let other = c.args.other.me.0 in
    let did = c.load.ensures.2 (joined_of other) c.args.seat.now.me.0.joined (ap (λ m. m.0.joined) now) in
    let before = ap (λ (m : Me (Option (JournalState g.row.D.Denot)) View). m.0) now in
    let w = c.load.new.seat.me.0 in record {
      after = did.0 ∙ ap (λ (v : View). let x : View = record v { seen = longer v.seen other.seen } in x) before;
      mine = subst (λ (v : View). IsPrefix v.seen w.seen) before did.2;
      theirs = did.3;
      own = subst (λ (v : View). of v.number w.seen ≡ of v.number v.seen) before did.4;
    }

pub returns-clause-few : goal.returns-clause-few
returns-clause-few g c =
    let now = c.join_seat.ensures.2 in
    let did = c.load.ensures.2 (joined_of c.args.other.me.0) c.args.seat.now.me.0.joined (ap (λ m. m.0.joined) now) in
    subst (λ n. n ≤ 64) (sym (ap (λ (v : View). length v.joined) did.0)) did.5
