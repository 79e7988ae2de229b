use Rattle.std.proofs.Common.{sym, ap, ◌∙◌, subst}
use Rattle.book_journal.specs.Applying.{Answers}
use Rattle.shared_book.proofs.Chained.{serves_first}
use Rattle.shared_book.proofs.Keeping.{keeps}
use Rattle.shared_book.proofs.Turning.{Goes, taken_here}
use Rattle.shared_book.proofs.serving.serve.Goals as goal

pub apply_here-journal-requires-clause-turn : goal.apply_here-journal-requires-clause-turn
apply_here-journal-requires-clause-turn g c = (
  c.draw_ticket-ticket.result,
  (taken_here g.D.Disk.honest g.D.Disk.seen g.D.Disk.images g.D.Disk.moment g.D.Disk.since g.D.Disk.faults c.args.top.now.key.value
      c.draw_ticket-ticket.result c.draw_ticket-ticket.new.seat.me c.take.new.seat.me c.take.result c.in-Some.journal c.take.ensures.taken c.in-Some.is).0,
)

pub apply_here-journal-requires-clause-goes : goal.apply_here-journal-requires-clause-goes
apply_here-journal-requires-clause-goes g c =
    (taken_here g.D.Disk.honest g.D.Disk.seen g.D.Disk.images g.D.Disk.moment g.D.Disk.since g.D.Disk.faults c.args.top.now.key.value
    c.draw_ticket-ticket.result c.draw_ticket-ticket.new.seat.me c.take.new.seat.me c.take.result c.in-Some.journal c.take.ensures.taken c.in-Some.is).1

pub returns-clause-serves : goal.returns-clause-serves
returns-clause-serves g c =
    let key = c.args.top.now.key.value in
    let here = (taken_here g.D.Disk.honest g.D.Disk.seen g.D.Disk.images g.D.Disk.moment g.D.Disk.since g.D.Disk.faults key
    c.draw_ticket-ticket.result c.draw_ticket-ticket.new.seat.me c.take.new.seat.me c.take.result c.in-Some.journal c.take.ensures.taken c.in-Some.is).1 in
    let drew = c.draw_ticket-ticket.ensures.drew in
    let number = ap (λ v. v.number) c.take.ensures.taken.view ∙ ap (λ m. m.0.number) drew in
    serves_first key.shape key.room c.args.upload.now c.args.seat.now.me.0 c.pass_on.new.seat.me.0
    (Goes g.D.Disk.honest g.D.Disk.seen g.D.Disk.images g.D.Disk.moment g.D.Disk.since g.D.Disk.faults key)
    c.draw_ticket-ticket.result c.draw_ticket-ticket.new.seat.me c.take.new.seat.me c.take.result c.in-Some.journal c.apply_here-journal.result.0
    c.apply_here-journal.result.1
    (ap (λ m. m.0) drew) c.requires.idle c.take.ensures.taken c.in-Some.is here.shape here.room
    (subst (λ n. Answers n c.args.upload.now c.in-Some.journal c.apply_here-journal.result.0 c.apply_here-journal.result.1) number
    c.apply_here-journal.ensures.answers)
    (ap (λ m. m.0) c.pass_on.ensures.passed ∙ c.apply_here-journal.ensures.rests)

pub returns-clause-keeps : goal.returns-clause-keeps
returns-clause-keeps g c = keeps _ _ _ _ _ _ (returns-clause-serves g c)
