use Rattle.std.proofs.Common.{rules, sym, ap, ◌∙◌, Option}
use Rattle.column_book.specs.declared.entry.Entry.{Entry}
use Rattle.book_journal.specs.Runs.{JournalState}
use Rattle.lock_rule.specs.declared.view.Doing.TheVariants.{Has}
use Rattle.lock_rule.specs.Plays.{fault_held, mark_after}
use Rattle.lock_rule.proofs.Changing.{marks}
use Rattle.shared_book.specs.Going.{GoesOn}
use Rattle.shared_book.specs.Steps.{found_by, resting}
use Rattle.shared_book.proofs.Turning.{same_slot}
use Rattle.shared_book.proofs.turns.mark_pass.Goals as goal

pub swap-requires : goal.swap-requires
swap-requires g c =
    let held = c.give_back.ensures.held in
    let br = c.requires.broken in (
      search rules,
      search rules,
      marks (λ (j : JournalState g.row.D.Denot). j.entries) (λ (j : JournalState g.row.D.Denot). j.fault)
          (GoesOn g.D.Disk.honest g.D.Disk.seen g.D.Disk.images g.D.Disk.moment g.D.Disk.since g.D.Disk.faults c.args.top.now.key.value)
          c.args.top.now.key.value.entries _ _ _
          br.0 c.args.journal.entries br.1 br.2 c.args.journal (ap (λ m. m.0.live) held ∙ c.requires.live)
          (ap (λ m. m.0.doing) held ∙ br.3) (ap (λ m. m.1) held) br.4 br.5,
    )

pub take_out-requires-clause-held : goal.take_out-requires-clause-held
take_out-requires-clause-held g c =
    let held = c.give_back.ensures.held in
    let br = c.requires.broken in
    let did = c.swap.ensures.2 br.0 c.args.journal.entries br.1 (ap (λ m. m.0.doing) held ∙ br.3) in
    (c.args.journal, did.1 ∙ ap (λ m. m.1) held)

pub returns-clause-back : goal.returns-clause-back
returns-clause-back g c =
    let held = c.give_back.ensures.held in
    let br = c.requires.broken in
    let did = c.swap.ensures.2 br.0 c.args.journal.entries br.1 (ap (λ m. m.0.doing) held ∙ br.3) in
    same_slot c.take_out.result c.args.journal c.swap.new.seat.me.1 c.take_out.ensures.out (did.1 ∙ ap (λ m. m.1) held)

pub returns-clause-turn : goal.returns-clause-turn
returns-clause-turn g c =
    let held = c.give_back.ensures.held in
    let br = c.requires.broken in
    let did = c.swap.ensures.2 br.0 c.args.journal.entries br.1 (ap (λ m. m.0.doing) held ∙ br.3) in
    let hand = ap (λ m. fault_held (λ (j : JournalState g.row.D.Denot). j.entries) (λ (j : JournalState g.row.D.Denot). j.fault)
    (GoesOn g.D.Disk.honest g.D.Disk.seen g.D.Disk.images g.D.Disk.moment g.D.Disk.since g.D.Disk.faults c.args.top.now.key.value) m.1) held in
    (br.0, ap (λ m. m.0.doing) c.take_out.ensures.hand ∙ (ap (λ v. v.doing) did.0 ∙ ap (λ (o : Option Entry). Has br.0 c.args.journal.entries o) hand))

pub returns-clause-rests : goal.returns-clause-rests
returns-clause-rests g c =
    let held = c.give_back.ensures.held in
    let br = c.requires.broken in
    let did = c.swap.ensures.2 br.0 c.args.journal.entries br.1 (ap (λ m. m.0.doing) held ∙ br.3) in
    let hand = ap (λ m. fault_held (λ (j : JournalState g.row.D.Denot). j.entries) (λ (j : JournalState g.row.D.Denot). j.fault)
    (GoesOn g.D.Disk.honest g.D.Disk.seen g.D.Disk.images g.D.Disk.moment g.D.Disk.since g.D.Disk.faults c.args.top.now.key.value) m.1) held in
    let found = sym (ap found_by br.3) in
    ap (λ m. resting m.0 c.args.journal.entries m.0.mark) c.take_out.ensures.hand
    ∙ (ap (λ v. resting v c.args.journal.entries v.mark) did.0
    ∙ (λ i. resting (ap (λ m. m.0) held i) c.args.journal.entries (mark_after (found i) (hand i) (ap (λ m. m.0) held i).mark)))
