use Rattle.std.proofs.Common.{◌≡◌, ◌∙◌, ◌*◌, ℕ, length, replicate, ap, arith, rules}
use Rattle.path_sim.specs.Pooling.{no_slot}
use Rattle.path_sim.proofs.Keeping.{started}
use Rattle.path_sim.proofs.pool.Pool.new.Goals as goal

pub returns-clause-pool : goal.returns-clause-pool
returns-clause-pool c =
    let w = c.args.scenario.now in
    let many : c.from-width.result * length c.switches.result.now ≡ w.shape.width * length w.switches = search rules in
    let slots : c.in_ok-slots.slots.items ≡ replicate (w.shape.width * length w.switches) no_slot =
    (let e : c.in_ok-slots.slots.items ≡ replicate (c.from-width.result * length c.switches.result.now) no_slot = search rules in e)
    ∙ ap (λ (n : ℕ). replicate n no_slot) many in
    let width : c.from-width.result ≡ w.shape.width = search rules in
    let hosts : c.loop-host._host-index ≡ length w.hosts = omega
    (arith, c.loop-host-test.false, c.loop-host.auto._host-index-end, ap length c.hosts-host-items.ensures.value) in (
      width,
      (started w c.new-2.result.items c.in_ok-slots.slots.items c.loop-host.inboxes.items c.loop-host._host-index c.new-2.ensures.items slots
          c.loop-host.invariant hosts).0,
    )

pub returns-clause-inboxes : goal.returns-clause-inboxes
returns-clause-inboxes c =
    let w = c.args.scenario.now in
    let many : c.from-width.result * length c.switches.result.now ≡ w.shape.width * length w.switches = search rules in
    let slots : c.in_ok-slots.slots.items ≡ replicate (w.shape.width * length w.switches) no_slot =
    (let e : c.in_ok-slots.slots.items ≡ replicate (c.from-width.result * length c.switches.result.now) no_slot = search rules in e)
    ∙ ap (λ (n : ℕ). replicate n no_slot) many in
    let hosts : c.loop-host._host-index ≡ length w.hosts = omega
    (arith, c.loop-host-test.false, c.loop-host.auto._host-index-end, ap length c.hosts-host-items.ensures.value) in
    (started w c.new-2.result.items c.in_ok-slots.slots.items c.loop-host.inboxes.items c.loop-host._host-index c.new-2.ensures.items slots
    c.loop-host.invariant hosts).1
