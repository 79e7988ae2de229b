use Rattle.lg_model.specs.Trace.{Meeting}
use Rattle.std.proofs.Common.{List, ◌<◌, Some, None, refl, sym, ap, subst, arith, length, slice_index_or, slice_set}
use Rattle.std.proofs.lemmas.Option.{slice_get-get_or}
use Rattle.lg_model.specs.TwinsState.{TwinsState}
use Rattle.path_sim.specs.Running.{IsRun, at_hops}
use Rattle.path_sim.proofs.Visiting.{Answers, emptied, declined, taken}
use Rattle.path_sim.proofs.meeting.offer.Goals as goal

pub returns-in-None : goal.returns-in-None
returns-in-None g c =
    let w = c.args.scenario.now in
    let m = c.args.m.now in
    let ps = c.args.pickers.now in
    let t = c.args.traffic.now in
    let inside : m.switch_at < length ps = omega (arith, c.requires.pickers, c.requires.visit.switch) in
    let p = slice_index_or ps m.switch_at c.index-pickers-at.result in
    let a : (counted : List Meeting) → Answers g.P.Picker.picks g.O.Post w m c.requires.visit counted t ps c.index-twin.result.now p c.pick.new.self None =
    λ counted. record {
      found = c.index-twin.ensures;
      some = c.requires.epoch;
      its = slice_get-get_or ps m.switch_at c.index-pickers-at.result inside;
      says = c.in-None.ensures.picks;
      lawful = c.in-None.ensures.lawful;
    } in
    record {
      run = λ start counted is. subst (IsRun g.P.Picker.picks g.O.Post w (at_hops w m.step_at m.number counted m.hop) start
          (slice_set ps m.switch_at c.pick.new.self) t) (sym c.requires.empty)
          (declined g.P.Picker.picks g.O.Post w m c.requires.visit counted t ps c.index-twin.result.now p c.pick.new.self (a counted) start
          (emptied g.P.Picker.picks g.O.Post w m c.requires.visit counted t ps c.args.cargo.now c.requires.empty start is));
    }

pub returns-in_ok-taken-in-Some : goal.returns-in_ok-taken-in-Some
returns-in_ok-taken-in-Some g c =
    let w = c.args.scenario.now in
    let m = c.args.m.now in
    let ps = c.args.pickers.now in
    let t = c.args.traffic.now in
    let inside : m.switch_at < length ps = omega (arith, c.requires.pickers, c.requires.visit.switch) in
    let p = slice_index_or ps m.switch_at c.index-pickers-at.result in
    let a : (counted : List Meeting) →
    Answers g.P.Picker.picks g.O.Post w m c.requires.visit counted t ps c.index-twin.result.now p c.pick.new.self (Some c.in-Some.index) =
    λ counted. record {
      found = c.index-twin.ensures;
      some = c.requires.epoch;
      its = slice_get-get_or ps m.switch_at c.index-pickers-at.result inside;
      says = c.in-Some.ensures.picks;
      lawful = c.in-Some.ensures.lawful;
    } in
    let step = c.in_ok-taken-in-Some.ensures in
    record {
      run = λ start counted is. taken g.P.Picker.picks g.O.Post w m c.requires.visit counted t _ ps c.index-twin.result.now p c.pick.new.self c.in-Some.index
          c.epoch.result c.in_ok-taken-in-Some.taken (a counted) c.epoch.ensures
          step.noted step.taken step.stays step.inboxes c.index_mut-twin.result.now c.index_mut-twin.ensures.value
          (ap (λ (x : TwinsState). slice_set t.twins.items m.switch_at x) c.put_out.ensures) refl start
          (emptied g.P.Picker.picks g.O.Post w m c.requires.visit counted t ps c.args.cargo.now c.requires.empty start is);
    }
