use Rattle.std.proofs.Common.{rules, ◌≡◌, refl, sym, ap, ◌∙◌, subst, arith, ◌<◌, length, [], ◌∷◌, ◌++◌, ◌+◌}
use Rattle.book_journal.specs.Applying.{Answers}
use Rattle.shared_book.specs.Passes.{ServesEach}
use Rattle.shared_book.specs.Steps.{after_turn}
use Rattle.shared_book.proofs.Chained.{InTurn, serves_first, goes_first, goes_on_with, ends_turn}
use Rattle.shared_book.proofs.Turning.{Goes, taken_here}
use Rattle.shared_book.proofs.serving.serve_each.Goals.{then-calls-test+else-is_ok, else-calls-test}
use Rattle.shared_book.proofs.serving.serve_each.Goals as goal

pub apply_here-journal-requires-clause-turn : goal.apply_here-journal-requires-clause-turn
apply_here-journal-requires-clause-turn g c = (
  c.draw_ticket-ticket.result,
  (taken_here g.D.Disk.honest g.D.Disk.seen g.D.Disk.images g.D.Disk.moment g.D.Disk.since g.D.Disk.faults c.args.top.now.key.value
      c.draw_ticket-ticket.result c.draw_ticket-ticket.new.seat.me c.take.new.seat.me c.take.result c.in-Some.journal c.take.ensures.taken c.in-Some.is).0,
)

pub apply_here-journal-requires-clause-goes : goal.apply_here-journal-requires-clause-goes
apply_here-journal-requires-clause-goes g c =
    (taken_here g.D.Disk.honest g.D.Disk.seen g.D.Disk.images g.D.Disk.moment g.D.Disk.since g.D.Disk.faults c.args.top.now.key.value
    c.draw_ticket-ticket.result c.draw_ticket-ticket.new.seat.me c.take.new.seat.me c.take.result c.in-Some.journal c.take.ensures.taken c.in-Some.is).1

pub calls-init : goal.calls-init
calls-init g c =
    let a = c.args in
    let key = a.top.now.key.value in
    let here = (taken_here g.D.Disk.honest g.D.Disk.seen g.D.Disk.images g.D.Disk.moment g.D.Disk.since g.D.Disk.faults key
    c.draw_ticket-ticket.result c.draw_ticket-ticket.new.seat.me c.take.new.seat.me c.take.result c.in-Some.journal c.take.ensures.taken c.in-Some.is).1 in
    let drew = c.draw_ticket-ticket.ensures.drew in
    let did = c.apply_here-journal.ensures in
    let view = c.take.ensures.taken.view in
    let number = ap (λ v. v.number) view ∙ ap (λ m. m.0.number) drew in
    let some : 0 < length a.uploads.now = (let s = c.requires.some in omega arith) in
    record {
      same = search rules;
      goes = did.goes;
      turn = subst (λ l. InTurn key.shape key.room a.uploads.now a.seat.now.me.0 1 c.apply_here-journal.new.seat.me c.apply_here-journal.result.0 l
          c.apply_here-journal.result.1) (sym (c.push_reserved.ensures.items ∙ ap (λ l. l ++ c.apply_here-journal.result.1 ∷ []) c.requires.none))
          (goes_first key.shape key.room a.uploads.now a.seat.now.me.0 c.index-uploads-0.result c.apply_here-journal.new.seat.me c.apply_here-journal.result.0
          c.apply_here-journal.result.1 some c.index-uploads-0.is
          (serves_first key.shape key.room c.index-uploads-0.result a.seat.now.me.0 _
          (Goes g.D.Disk.honest g.D.Disk.seen g.D.Disk.images g.D.Disk.moment g.D.Disk.since g.D.Disk.faults key)
          c.draw_ticket-ticket.result c.draw_ticket-ticket.new.seat.me c.take.new.seat.me c.take.result c.in-Some.journal
          c.apply_here-journal.result.0 c.apply_here-journal.result.1
          (ap (λ m. m.0) drew) c.requires.idle c.take.ensures.taken c.in-Some.is here.shape here.room
          (subst (λ n. Answers n c.index-uploads-0.result c.in-Some.journal c.apply_here-journal.result.0 c.apply_here-journal.result.1) number did.answers)
          did.rests)
          (ap (λ v. v.begun) did.rests ∙ (ap (λ v. v.begun) view ∙ ap (λ m. m.0.begun) drew))
          (ap (λ v. v.number) did.rests ∙ number)
          (ap (λ v. v.live) did.rests ∙ (ap (λ v. v.live) view ∙ (ap (λ m. m.0.live) drew ∙ c.requires.live)))
          did.turn did.hand);
      count = search rules;
      room = search rules;
    }

pub calls-preserved : goal.calls-preserved
calls-preserved g c =
    let a = c.args in
    let key = a.top.now.key.value in
    let l = c.calls in
    let k = l.invariant.turn in
    let began = c.begin.ensures.began in
    let did = c.apply_here-next.ensures in
    record {
      same = search rules;
      goes = did.goes;
      turn = subst (λ ls. InTurn key.shape key.room a.uploads.now a.seat.now.me.0 (l.at + 1) c.apply_here-next.new.seat.me c.apply_here-next.result.0 ls
          c.apply_here-next.result.1) (sym c.push_reserved-in-calls.ensures.items)
          (goes_on_with key.shape key.room a.uploads.now a.seat.now.me.0 l.at c.index-uploads-at.result l.seat.me c.apply_here-next.new.seat.me
          l.journal c.apply_here-next.result.0 l.answers.items l.answer c.apply_here-next.result.1 k (search rules) c.calls-test.true c.index-uploads-at.is
          l.invariant.goes.shape l.invariant.goes.room
          (subst (λ n. Answers n c.index-uploads-at.result l.journal c.apply_here-next.result.0 c.apply_here-next.result.1)
          (ap (λ m. m.0.number) began) did.answers)
          (did.rests ∙ ap (λ m. after_turn c.index-uploads-at.result m.0 c.apply_here-next.result.1) began)
          did.turn did.hand);
      count = search rules;
      room = search rules;
    }

pub returns-clause-serves : goal.returns-clause-serves
returns-clause-serves g c =
    let a = c.args in
    let key = a.top.now.key.value in
    let l = c.calls in
    let end = ends_turn key.shape key.room a.uploads.now a.seat.now.me.0 l.at l.seat.me l.journal l.answers.items l.answer l.invariant.turn in
    let passed = ap (λ m. m.0) c.pass_on.ensures.passed in
    subst (λ w. ServesEach key.shape key.room a.uploads.now a.seat.now.me.0 w l.answers.items) (sym passed)
    (elim c.calls-test.branch [
      | then-calls-test+else-is_ok w ↦ end (λ one. search rules)
      | else-calls-test w ↦ end (λ one. search rules)
    ])
