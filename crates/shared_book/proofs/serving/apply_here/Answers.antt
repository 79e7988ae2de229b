use Rattle.std.proofs.Common.{rules, sym, subst}
use Rattle.book_journal.specs.Applying.{Answers}
use Rattle.shared_book.proofs.Turning.{Goes, goes_on}
use Rattle.shared_book.proofs.serving.apply_here.Goals as goal

pub tell-requires-clause-turn : goal.tell-requires-clause-turn
tell-requires-clause-turn g c = (
  c.requires.turn.0,
  c.args.journal,
  c.requires.turn.1,
  subst (λ n. Answers n c.args.upload.now c.args.journal c.apply-answer.new.self c.apply-answer.result) c.requires.number
      c.apply-answer.ensures.applies.answers,
)

pub returns-clause-goes : goal.returns-clause-goes
returns-clause-goes g c =
    let did = c.apply-answer.ensures in
    subst (Goes g.D.Disk.honest g.D.Disk.seen g.D.Disk.images g.D.Disk.moment g.D.Disk.since g.D.Disk.faults c.args.top.now.key.value) (sym c.tell.ensures.back)
    (goes_on g.D.Disk.honest g.D.Disk.seen g.D.Disk.images g.D.Disk.moment g.D.Disk.since g.D.Disk.faults c.args.number c.args.upload.now
    c.args.top.now.key.value c.args.journal c.apply-answer.new.self c.apply-answer.result
    c.requires.goes did.applies.answers did.still did.was did.never_falls did.cause did.applies.runs)

pub returns-clause-answers : goal.returns-clause-answers
returns-clause-answers g c =
    subst (λ j. Answers c.args.seat.now.me.0.number c.args.upload.now c.args.journal j c.apply-answer.result) (sym c.tell.ensures.back)
    (subst (λ n. Answers n c.args.upload.now c.args.journal c.apply-answer.new.self c.apply-answer.result) c.requires.number
    c.apply-answer.ensures.applies.answers)
