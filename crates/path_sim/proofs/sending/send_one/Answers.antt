use Rattle.path_sim.proofs.Settling.{both_ok}
use Rattle.path_sim.proofs.Onward.{next_packet}
use Rattle.path_sim.proofs.sending.send_one.Goals as goal

pub settle-requires-clause-mail : goal.settle-requires-clause-mail
settle-requires-clause-mail g c = let is = c.in_ok-cargo.ensures.run c.requires.run.0 c.requires.run.1 c.requires.run.2 in (is.carried, is.mail, is.cargo_is)

pub returns : goal.returns
returns g c = record {
  run = both_ok c.settle.result _ _ _ (λ x mail twins start counted was.
      let is = c.in_ok-cargo.ensures.run start counted was in
      next_packet g.P.Picker.picks g.O.Post c.args.scenario.now c.args.sent.now.step_at c.args.number counted c.send.new.traffic c.settle.new.traffic
      c.in_ok-cargo.cargo start c.send.new.pickers twins is
      (mail is.carried is.mail is.cargo_is)) c.settle.ensures.mail c.settle.ensures.twins;
}
