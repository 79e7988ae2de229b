use Rattle.std.proofs.Common.{refl, ap}
use Rattle.uploader_core.specs.Uploader.{UploaderState}
use Rattle.upload_world.proofs.Sending.{next_is, none_next, steady_sent, send_failed, send_went}
use Rattle.upload_world.proofs.round.send_next.Goals as goal

pub returns-in_default-clause-sends : goal.returns-in_default-clause-sends
returns-in_default-clause-sends g c = record {
  over = none_next c.args.uploader.now.states c.in_default.ensures.which;
  states = ap (λ (u : UploaderState). u.states) c.in_default.ensures.states;
  held_is = refl;
  due_is = refl;
}

pub returns-in_err-sent-clause-steady : goal.returns-in_err-sent-clause-steady
returns-in_err-sent-clause-steady g c =
    let e = c.in-Some.ensures in
    steady_sent c.args.uploader.now c.next.new.self c.in-Some.seq (next_is c.args.uploader.now.states c.in-Some.seq e.which) e.states c.requires.steady

pub returns-in_err-sent-clause-sends : goal.returns-in_err-sent-clause-sends
returns-in_err-sent-clause-sends g c =
    let a = c.args in
    let e = c.in-Some.ensures in
    send_failed a.uploader.now.host a.uploader.now.uploads a.letter a.uploader.now.states a.held.now.items a.held.now.items a.due.now a.due.now c.in-Some.seq
    (next_is a.uploader.now.states c.in-Some.seq e.which) _ c.next.new.self.states c.from_residual.result (ap (λ (u : UploaderState). u.states) e.states)
    c.from_residual.ensures.1

pub returns-in_err-send-clause-steady : goal.returns-in_err-send-clause-steady
returns-in_err-send-clause-steady g c =
    let e = c.in-Some.ensures in
    steady_sent c.args.uploader.now c.next.new.self c.in-Some.seq (next_is c.args.uploader.now.states c.in-Some.seq e.which) e.states c.requires.steady

pub returns-in_err-send-clause-sends : goal.returns-in_err-send-clause-sends
returns-in_err-send-clause-sends g c =
    let a = c.args in
    let e = c.in-Some.ensures in
    send_failed a.uploader.now.host a.uploader.now.uploads a.letter a.uploader.now.states a.held.now.items c.send.new.held.items a.due.now c.send.new.due
    c.in-Some.seq (next_is a.uploader.now.states c.in-Some.seq e.which) _ c.next.new.self.states c.from_residual-in_err-send.result
    (ap (λ (u : UploaderState). u.states) e.states) c.from_residual-in_err-send.ensures.1

pub returns-clause-steady : goal.returns-clause-steady
returns-clause-steady g c =
    let e = c.in-Some.ensures in
    steady_sent c.args.uploader.now c.next.new.self c.in-Some.seq (next_is c.args.uploader.now.states c.in-Some.seq e.which) e.states c.requires.steady

pub returns-clause-sends : goal.returns-clause-sends
returns-clause-sends g c =
    let a = c.args in
    let e = c.in-Some.ensures in
    let s = c.in_ok-send.ensures in
    send_went a.uploader.now.host a.uploader.now.uploads a.letter a.uploader.now.states a.held.now.items c.send.new.held.items a.due.now c.send.new.due
    c.in-Some.seq (next_is a.uploader.now.states c.in-Some.seq e.which) c.next.new.self.uploads c.next.new.self.host c.in_ok-sent.sent c.next.new.self.states
    c.in_ok-sent.ensures.0 (ap (λ (u : UploaderState). u.uploads) e.states) (ap (λ (u : UploaderState). u.host) e.states)
    (ap (λ (u : UploaderState). u.states) e.states) c.in_ok-sent.ensures.1 c.requires.held c.requires.due s.held s.dues s.due
