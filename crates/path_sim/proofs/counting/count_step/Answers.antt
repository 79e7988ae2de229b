use Rattle.std.specs.Prelude.{◌≢◌, slice_index, slice_index_or, slice_set, take, All}
use Rattle.std.specs.List.{enumerate_from, AllPairs}
use Rattle.std.specs.Fn.{iterate}
use Rattle.std.proofs.Common.{append_assoc, ◌≡◌, ◌<◌, ◌+◌, ◌++◌, ◌∙◌, sym, ap, subst, arith, ℕ, List, length}
use Rattle.std.proofs.lemmas.List.{length-set}
use Rattle.std.proofs.lemmas.List.Elements.{All-get_or}
use Rattle.row_hash.proofs.PlacesInside.{length-places_of, places_inside}
use Rattle.lg_model.specs.Scenario.{Scenario}
use Rattle.lg_model.specs.Sketch.{raise}
use Rattle.path_sim.specs.declared.sending.Sent.{Sent}
use Rattle.lg_model.specs.Placing.{Shape, places_of}
use Rattle.lg_model.specs.Trace.{Packet, Meeting, reach, meeting_of, observation, packets_until, meetings_in}
use Rattle.lg_model.specs.Carrying as model
use Rattle.lg_model.specs.TwinsState.{TwinsState, AreTwins}
use Rattle.path_sim.specs.Sending.{packet_is, IsPacketStep}
use Rattle.path_sim.proofs.Bursts.{burst_at, by_hops, twins_burst, by_hops_more, twins_alike, with_burst}
use Rattle.path_sim.proofs.Steps.{Counts, counts, step_counted}
use Rattle.path_sim.proofs.counting.count_step.Goals as goal

-- what holds at a hop that the packets reach
record Reached (w : Scenario) (sent : Sent) (ts : List TwinsState) (k at : ℕ) (cs : List model.Carry) : Type 0 where
  pub is : at ≡ slice_index sent.flow.now.path k
  pub low : k < length sent.flow.now.path
  pub inside : at < length ts
  pub twins : AreTwins w sent.step_at (meetings_in (packets_until w sent.step_at)
      ++ by_hops (packet_is sent) (length (packets_until w sent.step_at)) sent.burst (enumerate_from 0 (take k sent.flow.now.path))) cs ts

at_hop : (w : Scenario) (sent : Sent) (ts : List TwinsState) (k at : ℕ) (cs : List model.Carry) → Counts w sent → k < sent.reached → at ≡ slice_index sent.flow.now.path k →
    AreTwins w sent.step_at (meetings_in (packets_until w sent.step_at)
    ++ by_hops (packet_is sent) (length (packets_until w sent.step_at)) sent.burst (enumerate_from 0 (take k sent.flow.now.path))) cs ts →
    Reached w sent ts k at cs
at_hop w sent ts k at cs its h is all =
    let low : k < length sent.flow.now.path = omega (arith, h, its.fits.reach) in
    let inside : slice_index sent.flow.now.path k < length w.switches = All-get_or (λ (a : ℕ). a < length w.switches) sent.flow.now.path k 0 low its.fits.path in
    record { is = is; low = low; inside = omega (arith, is, inside, all.count); twins = all }

-- the twins of the switch have the places of the flow
rows_at : (w : Scenario) (sent : Sent) (ts : List TwinsState) (k at : ℕ) (cs : List model.Carry) (d : TwinsState) → IsPacketStep w sent → Reached w sent ts k at cs →
    length sent.places.now ≡ (slice_index_or ts at d).shape.rows
rows_at w sent ts k at cs d step here =
    ap length step.places ∙ length-places_of w.shape sent.flow.now.key ∙ ap (λ (q : Shape). q.rows) (sym (here.twins.each at d here.inside).shape)

width_at : (w : Scenario) (sent : Sent) (ts : List TwinsState) (k at : ℕ) (cs : List model.Carry) (d : TwinsState) → 0 < w.shape.width → IsPacketStep w sent →
    Reached w sent ts k at cs → All (λ j. j < (slice_index_or ts at d).shape.width) sent.places.now
width_at w sent ts k at cs d wide step here =
    rw (step.places, (here.twins.each at d here.inside).shape) (places_inside w.shape sent.flow.now.key wide)

-- they are counted there
hop_counted : (w : Scenario) (sent : Sent) (ts : List TwinsState) (k at delay : ℕ) (cs : List model.Carry) (d t : TwinsState) → IsPacketStep w sent →
    Reached w sent ts k at cs → delay ≡ slice_index sent.delays.now k →
    t ≡ record (slice_index_or ts at d) { current = iterate (raise (slice_index sent.places.now) sent.size delay) sent.burst (slice_index_or ts at d).current } →
    AreTwins w sent.step_at (meetings_in (packets_until w sent.step_at)
    ++ by_hops (packet_is sent) (length (packets_until w sent.step_at)) sent.burst (enumerate_from 0 (take (k + 1) sent.flow.now.path))) cs (slice_set ts at t)
hop_counted w sent ts k at delay cs d t step here delay_is t_is =
    let p : Packet = packet_is sent in
    let ms : List Meeting = meetings_in (packets_until w sent.step_at) in
    let number : ℕ = length (packets_until w sent.step_at) in
    let hops = by_hops p number sent.burst (enumerate_from 0 (take k sent.flow.now.path)) in
    let x : TwinsState = slice_index_or ts at d in
    let shape : x.shape ≡ w.shape = (here.twins.each at d here.inside).shape in
    let more = twins_burst w (ms ++ hops) cs ts p (k, at) number sent.burst d here.twins here.inside in
    let places : sent.places.now ≡ places_of x.shape sent.flow.now.key = step.places ∙ ap (λ (q : Shape). places_of q sent.flow.now.key) (sym shape) in
    let same : t ≡ with_burst x sent.burst (observation (meeting_of 0 p (k, at))) =
    t_is ∙ (λ i. record x { current = iterate (raise (slice_index (places i)) sent.size (delay_is i)) sent.burst x.current }) in
    let lists : (ms ++ hops) ++ burst_at p (k, at) number sent.burst ≡ ms ++ by_hops p number sent.burst (enumerate_from 0 (take (k + 1) sent.flow.now.path)) =
    append_assoc ms hops (burst_at p (k, at) number sent.burst)
    ∙ ap (λ (a : ℕ). ms ++ (hops ++ burst_at p (k, a) number sent.burst)) here.is
    ∙ ap (λ xs. ms ++ xs) (sym (by_hops_more p number sent.burst sent.flow.now.path k here.low)) in
    rw (same, ← lists) more

pub see-requires-clause-rows : goal.see-requires-clause-rows
see-requires-clause-rows c =
    let w = c.args.scenario.now in
    let sent = c.args.sent.now in
    let at_is = ap (λ (xs : List ℕ). slice_index xs c.from-at.result) c.items-hops.ensures ∙ ap (slice_index sent.flow.now.path) c.from-at.ensures in
    let here = at_hop w sent c.loop-k.twins c.loop-k.k c.from.result c.requires.twins.0 (counts w sent c.flows-fits.ensures.fits c.requires.step)
    c.loop-k-test.true (c.from.ensures ∙ at_is) (c.loop-k.invariant.counted c.requires.twins.0 c.requires.twins.1) in
    rows_at w sent c.loop-k.twins c.loop-k.k c.from.result c.requires.twins.0 c.index-twins-from.result c.requires.step here

pub see-requires-clause-width : goal.see-requires-clause-width
see-requires-clause-width c =
    let w = c.args.scenario.now in
    let sent = c.args.sent.now in
    let at_is = ap (λ (xs : List ℕ). slice_index xs c.from-at.result) c.items-hops.ensures ∙ ap (slice_index sent.flow.now.path) c.from-at.ensures in
    let wide : 0 < w.shape.width = omega (arith, c.width-wide.ensures.range.some_width, ap (λ (q : Shape). q.width) c.shape.ensures.value) in
    let here = at_hop w sent c.loop-k.twins c.loop-k.k c.from.result c.requires.twins.0 (counts w sent c.flows-fits.ensures.fits c.requires.step)
    c.loop-k-test.true (c.from.ensures ∙ at_is) (c.loop-k.invariant.counted c.requires.twins.0 c.requires.twins.1) in
    width_at w sent c.loop-k.twins c.loop-k.k c.from.result c.requires.twins.0 c.index-twins-from.result wide c.requires.step here

pub loop-k-preserved : goal.loop-k-preserved
loop-k-preserved c =
    let w = c.args.scenario.now in
    let sent = c.args.sent.now in
    let at_is = ap (λ (xs : List ℕ). slice_index xs c.from-at.result) c.items-hops.ensures ∙ ap (slice_index sent.flow.now.path) c.from-at.ensures in
    let delay_is = ap (λ (xs : List ℕ). slice_index xs c.from-at.result) c.items-delays.ensures ∙ ap (slice_index sent.delays.now) c.from-at.ensures in
    record {
      long = length-set c.loop-k.twins c.from.result c.see.new.self ∙ c.loop-k.invariant.long;
      counted = λ cs all.
          let here = at_hop w sent c.loop-k.twins c.loop-k.k c.from.result cs (counts w sent c.flows-fits.ensures.fits c.requires.step)
          c.loop-k-test.true (c.from.ensures ∙ at_is) (c.loop-k.invariant.counted cs all) in
          hop_counted w sent c.loop-k.twins c.loop-k.k c.from.result _ cs c.index-twins-from.result c.see.new.self c.requires.step here delay_is c.see.ensures;
    }

pub returns : goal.returns
returns c =
    let w = c.args.scenario.now in
    let sent = c.args.sent.now in
    let its = counts w sent c.flows-fits.ensures.fits c.requires.step in
    let end : c.loop-k.k ≡ sent.reached = omega (arith, c.loop-k-test.false, c.loop-k.auto.k-end) in
    let reached_is : c.loop-k.k ≡ reach (packet_is sent) = end ∙ its.fits.reached_is in
    let apart = subst (λ (k : ℕ). AllPairs (λ x y. x ≢ y) (take k sent.flow.now.path)) its.fits.reached_is its.apart in
    λ cs all.
    rw (step_counted w sent c.requires.step)
    (twins_alike w (meetings_in (packets_until w sent.step_at)) cs c.loop-k.twins (packet_is sent) (length (packets_until w sent.step_at)) sent.burst sent.step_at apart
    (subst (λ (k : ℕ). AreTwins w sent.step_at (meetings_in (packets_until w sent.step_at)
    ++ by_hops (packet_is sent) (length (packets_until w sent.step_at)) sent.burst (enumerate_from 0 (take k sent.flow.now.path))) cs c.loop-k.twins) reached_is
    (c.loop-k.invariant.counted cs all)))
