use Rattle.std.proofs.Common.{◌≡◌, ◌<◌, ◌∙◌, refl, ap, arith, length, map, slice_set, eq-eqb}
use Rattle.lg_model.specs.declared.scenario.Step.TheVariants as steps
use Rattle.lg_model.specs.TwinsState.{TwinsState, with_end}
use Rattle.path_sim.specs.Parts.{step_in}
use Rattle.path_sim.proofs.Steps.{refill, step_known, step_fits, epoch_fits, ended_one, ended_every, released_step, quiet_number}
use Rattle.path_sim.proofs.stepping.step_once.Goals as goal

pub end-requires : goal.end-requires
end-requires g c =
    let w = c.args.scenario.now in
    let n = c.args.step_at in
    let s = c.in-End.switch_at in
    let t = c.args.traffic.now in
    let step : step_in w n ≡ steps.End s = step_known w n c.steps.result.now c.index-steps-step_at.result c.steps.ensures.value c.requires.inside
    c.index-steps-step_at.is ∙ c.in-End.is in
    let fits : s < length w.switches = step_fits w n (steps.End s) c.steps.ensures.fits c.requires.inside step in
    let inside : s < length t.twins.items = omega (arith, fits, c.requires.run.1.twins.count) in
    let few = epoch_fits g.P.Picker.picks g.O.Post w n c.args.number c.requires.inside t s t.twins.items c.index_mut-twin.result.now c.requires.run.0
    c.args.pickers.now c.steps.ensures.fits refl inside (rw step (eq-eqb s s refl)) c.requires.run.1 in
    omega (arith, few, ap (λ (x : TwinsState). x.epoch) c.index_mut-twin.ensures.value)

pub end_all-requires : goal.end_all-requires
end_all-requires g c s d low =
    let w = c.args.scenario.now in
    let n = c.args.step_at in
    let step : step_in w n ≡ steps.EndAll = step_known w n c.steps.result.now c.index-steps-step_at.result c.steps.ensures.value c.requires.inside
    c.index-steps-step_at.is ∙ c.in-EndAll.is in
    epoch_fits g.P.Picker.picks g.O.Post w n c.args.number c.requires.inside c.args.traffic.now s c.deref_mut.result.now d c.requires.run.0
    c.args.pickers.now c.steps.ensures.fits c.deref_mut.ensures.value low (rw step refl) c.requires.run.1

pub returns-in-End-clause-number : goal.returns-in-End-clause-number
returns-in-End-clause-number g c =
    let w = c.args.scenario.now in
    let n = c.args.step_at in
    let step : step_in w n ≡ steps.End c.in-End.switch_at = step_known w n c.steps.result.now c.index-steps-step_at.result c.steps.ensures.value
    c.requires.inside c.index-steps-step_at.is ∙ c.in-End.is in
    quiet_number w n c.args.number c.requires.inside c.requires.number (rw step refl)

pub returns-in-End-clause-run : goal.returns-in-End-clause-run
returns-in-End-clause-run g c = λ start is.
    let w = c.args.scenario.now in
    let n = c.args.step_at in
    let s = c.in-End.switch_at in
    let t = c.args.traffic.now in
    let step : step_in w n ≡ steps.End s = step_known w n c.steps.result.now c.index-steps-step_at.result c.steps.ensures.value c.requires.inside
    c.index-steps-step_at.is ∙ c.in-End.is in
    let fits : s < length w.switches = step_fits w n (steps.End s) c.steps.ensures.fits c.requires.inside step in
    ended_one g.P.Picker.picks g.O.Post w n c.args.number c.requires.inside t _ s c.index_mut-twin.result.now start c.args.pickers.now c.requires.number
    step fits c.index_mut-twin.ensures.value
    (ap (λ (x : TwinsState). slice_set t.twins.items s x) c.end.ensures) refl refl is

pub returns-in-EndAll-clause-number : goal.returns-in-EndAll-clause-number
returns-in-EndAll-clause-number g c =
    let w = c.args.scenario.now in
    let n = c.args.step_at in
    let step : step_in w n ≡ steps.EndAll = step_known w n c.steps.result.now c.index-steps-step_at.result c.steps.ensures.value c.requires.inside
    c.index-steps-step_at.is ∙ c.in-EndAll.is in
    quiet_number w n c.args.number c.requires.inside c.requires.number (rw step refl)

pub returns-in-EndAll-clause-run : goal.returns-in-EndAll-clause-run
returns-in-EndAll-clause-run g c = λ start is.
    let w = c.args.scenario.now in
    let n = c.args.step_at in
    let t = c.args.traffic.now in
    let step : step_in w n ≡ steps.EndAll = step_known w n c.steps.result.now c.index-steps-step_at.result c.steps.ensures.value c.requires.inside
    c.index-steps-step_at.is ∙ c.in-EndAll.is in
    let twins = refill t.twins.len t.twins.items c.end_all.new.twins (c.end_all.auto.twins ∙ c.deref_mut.ensures.len) in
    ended_every g.P.Picker.picks g.O.Post w n c.args.number c.requires.inside t _ start c.args.pickers.now c.requires.number step (twins
    ∙ c.end_all.ensures ∙ ap (λ xs. map with_end xs) c.deref_mut.ensures.value) refl refl is

pub returns-in_ok-release-in-Release-clause-number : goal.returns-in_ok-release-in-Release-clause-number
returns-in_ok-release-in-Release-clause-number g c =
    let w = c.args.scenario.now in
    let n = c.args.step_at in
    let step : step_in w n ≡ steps.Release = step_known w n c.steps.result.now c.index-steps-step_at.result c.steps.ensures.value c.requires.inside
    c.index-steps-step_at.is ∙ c.in-Release.is in
    quiet_number w n c.args.number c.requires.inside c.requires.number (rw step refl)

pub returns-in_ok-release-in-Release-clause-run : goal.returns-in_ok-release-in-Release-clause-run
returns-in_ok-release-in-Release-clause-run g c = λ start is.
    let w = c.args.scenario.now in
    let n = c.args.step_at in
    let t = c.args.traffic.now in
    let step : step_in w n ≡ steps.Release = step_known w n c.steps.result.now c.index-steps-step_at.result c.steps.ensures.value c.requires.inside
    c.index-steps-step_at.is ∙ c.in-Release.is in
    let gone = c.in_ok-release-in-Release.ensures in
    released_step g.P.Picker.picks g.O.Post w n c.args.number c.requires.inside t _ start c.args.pickers.now c.requires.number step refl gone.empty
    gone.hosts gone.noted gone.arrived is
