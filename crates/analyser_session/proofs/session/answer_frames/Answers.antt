use Rattle.std.proofs.Common.{◌+◌, ◌∙◌, refl, sym, arith}
use Rattle.std.proofs.lemmas.Result.{err_from_is_err_and}
use Rattle.analyser_session.proofs.Serving.{going_start, going_more, exit_bye, exit_send, exit_answer, exit_next, exit_many, which_of}
use Rattle.analyser_session.proofs.session.answer_frames.Goals as goal

pub loop-nth-init : goal.loop-nth-init
loop-nth-init g c = record {
  same = refl;
  going = going_start c.args.book.now.first.shape c.args.book.now.first.room c.args.pass.now.view (g.S.Source.left c.args.source.now)
      (g.K.Sink.written c.args.sink.now) c.new-reader.result c.new-reader.ensures;
  begun = omega arith;
  read_faults = omega arith;
  write_faults = omega arith;
}

pub returns-in_err-frame-clause-session : goal.returns-in_err-frame-clause-session
returns-in_err-frame-clause-session g c =
    let p = err_from_is_err_and c.from_residual.result c.from_residual.ensures.1 in
    let i = c.loop-nth.invariant.going in
    rw (p.1, p.2) (exit_next _ _ _ _ _ _ _ _ _ _ _ i _ _ _ _ (omega (arith, c.loop-nth-test.true)) c.in_err-frame.ensures.next)

pub returns-in_default-clause-session : goal.returns-in_default-clause-session
returns-in_default-clause-session g c =
    let i = c.loop-nth.invariant.going in
    exit_answer _ _ _ _ _ _ _ _ _ _ _ i _ _ _ _ c.in_ok-frame.frame _ (omega (arith, c.loop-nth-test.true)) c.in_ok-frame.ensures.next
    c.in_default.ensures.answers

pub returns-in_err-send-clause-session : goal.returns-in_err-send-clause-session
returns-in_err-send-clause-session g c =
    let p = err_from_is_err_and c.from_residual-in_err-send.result c.from_residual-in_err-send.ensures.1 in
    let i = c.loop-nth.invariant.going in
    let s = c.in_err-send in
    rw (p.1, p.2)
    (exit_send _ _ _ _ _ _ _ _ _ _ _ i _ _ _ _ _ c.in_ok-frame.frame c.in-Ok.reply s.field-0.0 (omega (arith, c.loop-nth-test.true))
    c.in_ok-frame.ensures.next c.in-Ok.ensures.answers s.ensures.err s.ensures.memory (which_of s.field-0.0 s.ensures.fault))

pub returns-then-is_bye-clause-session : goal.returns-then-is_bye-clause-session
returns-then-is_bye-clause-session g c =
    let i = c.loop-nth.invariant.going in
    exit_bye _ _ _ _ _ _ _ _ _ _ _ i _ _ _ _ _ c.in_ok-frame.frame c.in-Ok.reply (record { frames = c.loop-nth.nth + 1 })
    (omega (arith, c.loop-nth-test.true)) c.in_ok-frame.ensures.next c.in-Ok.ensures.answers c.in_ok-send.ensures.ok
    (sym c.is_bye.ensures ∙ c.if-is_bye.true) refl

pub loop-nth-preserved : goal.loop-nth-preserved
loop-nth-preserved g c =
    let i = c.loop-nth.invariant in
    record {
      same = c.in-Ok.ensures.book ∙ i.same;
      going = going_more _ _ _ _ _ _ _ _ _ _ _ i.going _ _ _ _ _ c.in_ok-frame.frame c.in-Ok.reply c.in_ok-frame.ensures.next
          c.in-Ok.ensures.answers c.in_ok-send.ensures.ok (sym c.is_bye.ensures ∙ c.if-is_bye.false);
      begun = omega (arith, i.begun, c.in-Ok.ensures.keeps.begun);
      read_faults = omega (arith, i.read_faults, c.in_ok-frame.ensures.never_falls);
      write_faults = omega (arith, i.write_faults, c.in_ok-send.ensures.never_falls);
    }

pub returns-clause-session : goal.returns-clause-session
returns-clause-session g c =
    exit_many _ _ _ _ _ _ _ _ _ _ _ c.loop-nth.invariant.going (omega (arith, c.loop-nth.invariant, c.loop-nth-test.false))
