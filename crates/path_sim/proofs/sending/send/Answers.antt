use Rattle.std.proofs.Common.{◌≡◌, ◌<◌, ◌≤◌, ◌+◌, ◌-◌, ◌∙◌, sym, ap, subst, arith, ℕ, List, length}
use Rattle.std.specs.Prelude.{slice_index}
use Rattle.std.proofs.lemmas.List.Elements.{All-get_or}
use Rattle.lg_model.specs.Trace.{Packet, Meeting, reach, meeting_of, meetings_of}
use Rattle.lg_model.specs.Arriving.{packet_at}
use Rattle.path_sim.specs.Sending.{packet_is}
use Rattle.path_sim.specs.Running.{IsRun, at_hops}
use Rattle.path_sim.proofs.Walking.{meetings_to_end, length_meetings, hop_more}
use Rattle.path_sim.proofs.Visiting.{rides}
use Rattle.path_sim.proofs.sending.send.Goals as goal

pub meet-requires-clause-visit : goal.meet-requires-clause-visit
meet-requires-clause-visit g c =
    let w = c.args.scenario.now in
    let n = c.args.number in
    let sent = c.args.sent.now in
    let its = c.requires.sent in
    let k : ℕ = c.loop-k.k in
    let p : Packet = packet_is sent in
    let hops : List ℕ = c.items-hops.result.now in
    let waits : List ℕ = c.items-delays.result.now in
    let at : ℕ = c.from-at.result in
    let m : Meeting = record {
      number = n;
      step_at = sent.step_at;
      hop = k + 1;
      hops = length hops;
      switch_at = slice_index hops at;
      key =
          sent.flow.now.key;
      size = sent.size;
      delay = slice_index waits at;
    } in
    let is : m ≡ meeting_of n p (k, slice_index p.flow.path k) = λ i. record {
      number = n;
      step_at = sent.step_at;
      hop = k + 1;
      hops = length (c.items-hops.ensures i);
      switch_at = slice_index (c.items-hops.ensures i) (c.from-at.ensures i);
      key = sent.flow.now.key;
      size = sent.size;
      delay = slice_index (c.items-delays.ensures i) (c.from-at.ensures i);
    } in
    let low : k < reach p = omega (arith, its.fits.reached_is, c.loop-k-test.true) in
    let inside : reach p ≤ length p.flow.path = omega (arith, its.fits.reached_is, its.fits.reach) in
    let long : length hops ≡ length p.flow.path = ap length c.items-hops.ensures in
    record {
      inside = its.inside;
      first = its.first;
      few = omega (arith, its.number, its.few);
      first_hop = omega arith;
      last_hop = omega (arith, low, inside, long);
      few_hops = omega (arith, its.fits.few_hops, long);
      switch = subst (λ (a : ℕ). a < length w.switches) (sym (λ i. slice_index (c.items-hops.ensures i) (c.from-at.ensures i)))
          (All-get_or (λ (a : ℕ). a < length w.switches) p.flow.path k 0 (omega (arith, low, inside)) its.fits.path);
      name = λ i. slice_index (c.switches-names.ensures.value i) (c.from.ensures i);
      next = hop_more w n k p m its.packet low inside is;
    }

pub loop-k-preserved : goal.loop-k-preserved
loop-k-preserved g c = λ start counted is.
    let back : (c.loop-k.k + 1) - 1 ≡ c.loop-k.k = omega arith in
    c.in_ok-meet.ensures.run start counted (subst (λ (a : ℕ). IsRun g.P.Picker.picks g.O.Post c.args.scenario.now
    (at_hops c.args.scenario.now c.args.sent.now.step_at c.args.number counted a) start c.loop-k.pickers c.loop-k.traffic c.loop-k.cargo)
    (sym back) (c.loop-k.invariant start counted is))

pub returns-then-is_some : goal.returns-then-is_some
returns-then-is_some g c =
    let w = c.args.scenario.now in
    let n = c.args.number in
    let sent = c.args.sent.now in
    let its = c.requires.sent in
    let k : ℕ = c.loop-k.k in
    let r : sent.reached ≡ reach (packet_at w n) = its.fits.reached_is ∙ ap reach (sym its.packet) in
    let inside : reach (packet_at w n) ≤ length (packet_at w n).flow.path =
    subst (λ (p : Packet). reach p ≤ length p.flow.path) (sym its.packet) (omega (arith, its.fits.reached_is, its.fits.reach)) in
    let left : k + (reach (packet_at w n) - k) ≡ length (meetings_of (n, packet_at w n)) = omega
    (arith, c.loop-k-test.true, r, length_meetings n (packet_at w n) inside) in
    record {
      run = λ start counted is. subst (λ (ms : List Meeting). IsRun g.P.Picker.picks g.O.Post w
          (record { step = sent.step_at; number = n; counted = counted; offered = ms }) start c.loop-k.pickers c.loop-k.traffic c.loop-k.cargo)
          (meetings_to_end w n (k + (reach (packet_at w n) - k)) its.number left)
          (rides g.P.Picker.picks g.O.Post w sent.step_at n counted c.loop-k.traffic start c.loop-k.pickers c.loop-k.cargo k (reach (packet_at w n) - k)
          (sym c.is_some.ensures ∙ c.if-is_some.true) inside left (c.loop-k.invariant start counted is));
    }

pub returns : goal.returns
returns g c =
    let w = c.args.scenario.now in
    let n = c.args.number in
    let sent = c.args.sent.now in
    let its = c.requires.sent in
    let k : ℕ = c.loop-k.k in
    let r : sent.reached ≡ reach (packet_at w n) = its.fits.reached_is ∙ ap reach (sym its.packet) in
    let inside : reach (packet_at w n) ≤ length (packet_at w n).flow.path =
    subst (λ (p : Packet). reach p ≤ length p.flow.path) (sym its.packet) (omega (arith, its.fits.reached_is, its.fits.reach)) in
    let all : k ≡ length (meetings_of (n, packet_at w n)) = omega
    (arith, c.loop-k-test.false, c.loop-k.auto.k-end, r, length_meetings n (packet_at w n) inside) in
    record {
      run = λ start counted is. subst (λ (ms : List Meeting). IsRun g.P.Picker.picks g.O.Post w
          (record { step = sent.step_at; number = n; counted = counted; offered = ms }) start c.loop-k.pickers c.loop-k.traffic c.loop-k.cargo)
          (meetings_to_end w n k its.number all) (c.loop-k.invariant start counted is);
    }
