use Rattle.std.proofs.Common.{◌≡◌, ◌<◌, ◌∙◌, sym, arith, length, map, ext_get_or}
use Rattle.std.proofs.lemmas.List.{length-map, get_or-map}
use Rattle.lg_model.specs.declared.scenario.Hash.TheVariants.{Ports}
use Rattle.lg_model.specs.TwinsState.{TwinsState, with_end, new_twins}
use Rattle.path_sim.proofs.stepping.end_all.Goals as goal

pub returns : goal.returns
returns c =
    let ts = c.args.twins.now in
    let d : TwinsState = new_twins (record { rows = 0; width = 0; hash = Ports }) in
    let long : length c.loop-s.twins ≡ length ts = c.loop-s.auto.twins in
    ext_get_or d c.loop-s.twins (map with_end ts) (long ∙ sym (length-map ts with_end))
    (λ k h. let low : k < length ts = omega (arith, long) in c.loop-s.invariant.done k d (omega (arith, long, c.loop-s-test.false))
    ∙ sym (get_or-map with_end ts k d d low))
