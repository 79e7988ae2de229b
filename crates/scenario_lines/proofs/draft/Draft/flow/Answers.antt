use Rattle.std.proofs.Common.{◌<◌, arith, length, ap, ℕ, List}
use Rattle.lg_model.specs.declared.scenario.Flow.{Flow}
use Rattle.lg_model.specs.Keeping.{IsFlow}
use Rattle.scenario_lines.specs.Draft.{view}
use Rattle.scenario_lines.proofs.KeepingLemmas.{flow_more}
use Rattle.scenario_lines.proofs.WeightLemmas.{flow_weighs}
use Rattle.std.specs.Fmt.{decimal}
use Rattle.scenario_lines.specs.Spelling.{size, path_words}
use Rattle.scenario_lines.proofs.draft.Draft.flow.Goals as goal

pub returns-clause-fits : goal.returns-clause-fits
returns-clause-fits c =
    let flow : Flow = record { name = c.in_ok-name.name; key = c.in_ok-key.key; host_at = c.in_ok-host_at.host_at; path = c.new-path.result } in
    let at : c.in_ok-host_at.host_at < length c.args.self.now.parts.hosts.items =
    omega (arith, c.in_ok-host_at.ensures.bound, ap length c.deref.ensures.value) in
    let hops = rw c.deref-2.ensures.value at c.in_ok-hops.ensures.bound in
    let fits : IsFlow (length c.args.self.now.parts.hosts.items) (length c.args.self.now.parts.switches.items) flow = record {
      name = omega (arith, c.in_ok-name.ensures.bound);
      key = c.in_ok-key.ensures.fits;
      host = at;
      path = rw c.new-path.ensures hops;
      some_hops = rw c.new-path.ensures c.in_ok-hops.ensures.some;
      few_hops = rw c.new-path.ensures c.in_ok-hops.ensures.short;
      once = rw c.new-path.ensures c.in_ok-hops.ensures.once;
    } in
    flow_more (view c.args.self.now) c.push_flow.new.flows.items flow c.push_flow.new.positions.items c.requires fits c.in_ok-push_flow.ensures.added
    (omega (arith, c.in_ok-room_for.ensures.fits)) c.push_flow.ensures.indexed

pub returns-clause-printed_len : goal.returns-clause-printed_len
returns-clause-printed_len c =
    let flow : Flow = record { name = c.in_ok-name.name; key = c.in_ok-key.key; host_at = c.in_ok-host_at.host_at; path = c.new-path.result } in
    let host = rw c.deref.ensures.value at c.in_ok-host_at.ensures.named in
    let hops = rw c.deref-2.ensures.value at c.in_ok-hops.ensures.taken in
    let path = ap (λ (at : List ℕ). size (path_words c.args.self.now.parts.switches.items at)) c.new-path.ensures in
    omega (
      arith,
      flow_weighs (view c.args.self.now) c.push_flow.new.flows.items flow c.requires c.in_ok-push_flow.ensures.added,
      ap (λ (n : ℕ). length (decimal n)) host,
      path,
      hops,
      c.in_ok-name.ensures.taken,
      c.in_ok-key.ensures.taken,
      c.in_ok-text.ensures.taken,
      c.in_ok-host.ensures.taken,
      c.in_ok-text-2.ensures.taken,
    )
