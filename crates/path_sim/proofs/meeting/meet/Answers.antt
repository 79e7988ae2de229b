use Rattle.std.proofs.Common.{◌≡◌, ◌∙◌, sym, arith}
use Rattle.lg_model.specs.Scenario.{ended}
use Rattle.path_sim.specs.Parts.{meeting_is}
use Rattle.path_sim.proofs.Offers.{offer_early}
use Rattle.path_sim.proofs.Visiting.{passed, epoch_is}
use Rattle.path_sim.proofs.meeting.meet.Goals as goal

pub returns-then-epoch-eq0 : goal.returns-then-epoch-eq0
returns-then-epoch-eq0 g c =
    let w = c.args.scenario.now in
    let m = c.args.m.now in
    let ps = c.args.pickers.now in
    let t = c.args.traffic.now in
    record {
      run = λ start counted is.
          let none : ended w m.switch_at m.step_at ≡ 0 =
          sym (epoch_is g.P.Picker.picks g.O.Post w m c.requires.visit counted t c.index.result.now c.index.ensures start ps c.args.cargo.now is)
          ∙ sym c.epoch.ensures ∙ c.if-epoch-eq0.true in
          passed g.P.Picker.picks g.O.Post w m c.requires.visit counted t start ps c.args.cargo.now is (offer_early w (meeting_is m) is.carried none);
    }

pub offer-requires-clause-epoch : goal.offer-requires-clause-epoch
offer-requires-clause-epoch g c =
    let w = c.args.scenario.now in
    let m = c.args.m.now in
    let same : c.epoch.result ≡ ended w m.switch_at m.step_at =
    c.epoch.ensures
    ∙ epoch_is g.P.Picker.picks g.O.Post w m c.requires.visit c.requires.run.1 c.args.traffic.now c.index.result.now c.index.ensures c.requires.run.0
    c.args.pickers.now c.args.cargo.now c.requires.run.2 in
    omega (arith, same, c.if-epoch-eq0.false)
