use Rattle.std.proofs.Common.{◌+◌, ◌∙◌, refl, sym, ap, arith, ℕ}
use Rattle.std.proofs.lemmas.Result.{IfOk-weaker}
use Rattle.lg_model.specs.Trace.{packets_until, meetings_in}
use Rattle.path_sim.proofs.Steps.{refill, first_twins, counted_step, all_sent, number_more, number_fits, few_packets, sends, sent_step}
use Rattle.path_sim.proofs.stepping.packet_step.Goals as goal

pub returns-clause-number : goal.returns-clause-number
returns-clause-number g c =
    let s = c.args.sent.now in
    let step = c.requires.step in
    ap (λ (k : ℕ). k + s.burst) c.requires.number ∙ sym (number_more c.args.scenario.now s.step_at step.flow_at s.size s.delays.now s.burst s.fate
    step.inside step.step)

pub returns-clause-few : goal.returns-clause-few
returns-clause-few g c =
    let w = c.args.scenario.now in
    let s = c.args.sent.now in
    omega (arith, returns-clause-number g c, number_fits w (s.step_at + 1) (omega (arith, c.requires.step.inside)), few_packets w c.flows-fits.ensures.fits)

pub send_all-requires-clause-few : goal.send_all-requires-clause-few
send_all-requires-clause-few g c =
    let w = c.args.scenario.now in
    let s = c.args.sent.now in
    let step = c.requires.step in
    let more = number_more w s.step_at step.flow_at s.size s.delays.now s.burst s.fate step.inside step.step in
    omega (arith, c.requires.number, more, number_fits w (s.step_at + 1) (omega (arith, step.inside)), few_packets w c.flows-fits.ensures.fits)

pub send_all-requires-clause-sent : goal.send_all-requires-clause-sent
send_all-requires-clause-sent g c = sends c.args.scenario.now c.args.number c.args.sent.now c.flows-fits.ensures.fits c.requires.step c.requires.number

pub count_step-requires-clause-twins : goal.count_step-requires-clause-twins
count_step-requires-clause-twins g c =
    let w = c.args.scenario.now in
    let n = c.args.sent.now.step_at in
    let is = c.requires.run.1 in (
      is.carried,
      rw c.deref_mut.ensures.value (first_twins g.P.Picker.picks g.O.Post w n c.args.number c.requires.step.inside c.args.traffic.now c.requires.run.0
          c.args.pickers.now c.requires.number is),
    )

pub send_all-requires-clause-run : goal.send_all-requires-clause-run
send_all-requires-clause-run g c =
    let w = c.args.scenario.now in
    let n = c.args.sent.now.step_at in
    let t = c.args.traffic.now in
    let new = refill t.twins.len t.twins.items c.count_step.new.twins (c.count_step.auto.twins ∙ c.deref_mut.ensures.len) in (
      c.requires.run.0,
      meetings_in (packets_until w (n + 1)),
      counted_step g.P.Picker.picks g.O.Post w n c.args.number c.requires.step.inside t _ c.deref_mut.result.now c.count_step.new.twins c.requires.run.0
          c.args.pickers.now c.requires.number c.deref_mut.ensures.value new refl refl c.count_step.ensures c.requires.run.1,
    )

pub returns-clause-run : goal.returns-clause-run
returns-clause-run g c =
    let w = c.args.scenario.now in
    let s = c.args.sent.now in
    let n = s.step_at in
    let t = c.args.traffic.now in
    let h = c.requires.step.inside in
    let new = refill t.twins.len t.twins.items c.count_step.new.twins (c.count_step.auto.twins ∙ c.deref_mut.ensures.len) in
    IfOk-weaker c.send_all.result _ _ (λ x goes start is.
    let ahead = counted_step g.P.Picker.picks g.O.Post w n c.args.number h t _ c.deref_mut.result.now c.count_step.new.twins start
    c.args.pickers.now c.requires.number c.deref_mut.ensures.value new refl refl c.count_step.ensures is in
    let sent = all_sent g.P.Picker.picks g.O.Post w n (c.args.number + s.burst) h c.send_all.new.traffic start c.send_all.new.pickers
    (c.args.number + s.burst) (returns-clause-number g c) (goes start (meetings_in (packets_until w (n + 1))) ahead) in
    sent_step g.P.Picker.picks g.O.Post w n (c.args.number + s.burst) h s c.send_all.new.traffic start
    c.send_all.new.pickers c.requires.step refl (returns-clause-number g c) sent) c.send_all.ensures.run
