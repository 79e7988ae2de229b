use Rattle.std.proofs.Common.{rules, sym, ap, ◌∙◌, None}
use Rattle.book_journal.specs.Runs.{JournalState}
use Rattle.lock_rule.proofs.Changing.{commits}
use Rattle.shared_book.specs.Going.{GoesOn}
use Rattle.shared_book.proofs.turns.commit_entry.Goals as goal

pub fetch_add-requires : goal.fetch_add-requires
fetch_add-requires g c =
    let held = c.give_back.ensures.held in
    let st = c.requires.stored in (
      search rules,
      search rules,
      commits (λ (j : JournalState g.row.D.Denot). j.entries) (λ (j : JournalState g.row.D.Denot). j.fault)
          (GoesOn g.D.Disk.honest g.D.Disk.seen g.D.Disk.images g.D.Disk.moment g.D.Disk.since g.D.Disk.faults c.args.top.now.key.value)
          c.args.top.now.key.value.entries _ _ _
          st.0 st.1 st.2 c.args.journal (ap (λ m. m.0.live) held ∙ c.requires.live) (ap (λ m. m.0.doing) held ∙ st.3) (ap (λ m. m.1) held)
          st.4 (st.5 ∙ sym (ap (λ m. m.0.number) held)) st.6,
    )

pub take_out-requires-clause-held : goal.take_out-requires-clause-held
take_out-requires-clause-held g c =
    let held = c.give_back.ensures.held in
    let st = c.requires.stored in
    let did = c.fetch_add.ensures.2 st.0 st.1 None (ap (λ m. m.0.doing) held ∙ st.3) in
    (c.args.journal, did.1 ∙ ap (λ m. m.1) held)
