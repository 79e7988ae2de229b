use Rattle.std.proofs.Common.{◌≡◌, arith, length, ap}
use Rattle.lg_model.specs.declared.scenario.HostLine.{HostLine}
use Rattle.lg_model.specs.Keeping.{IsHost}
use Rattle.scenario_lines.specs.Draft.{view}
use Rattle.scenario_lines.proofs.KeepingLemmas.{host_more}
use Rattle.scenario_lines.proofs.WeightLemmas.{host_weighs}
use Rattle.scenario_lines.proofs.draft.Draft.host.Goals as goal

pub returns-clause-fits : goal.returns-clause-fits
returns-clause-fits c =
    let host : HostLine = record { name = c.in_ok-name.name; letters = c.new-letters.result } in
    let line : IsHost host =
    record {
      name = omega (arith, c.in_ok-name.ensures.bound);
      few_letters = omega (arith, ap length c.new-letters.ensures, ap length c.new.ensures.items);
    } in
    host_more (view c.args.self.now) c.push.new.self.items host c.requires c.in_ok-push.ensures.items
    (omega (arith, c.in_ok-room_for.ensures.fits, c.len.ensures)) line (rw c.deref.ensures.value at c.in_ok-new_host.ensures.fresh)

pub returns-clause-printed_len : goal.returns-clause-printed_len
returns-clause-printed_len c =
    let host : HostLine = record { name = c.in_ok-name.name; letters = c.new-letters.result } in
    let none : length host.letters ≡ 0 = omega (arith, ap length c.new-letters.ensures, ap length c.new.ensures.items) in
    omega (arith, host_weighs (view c.args.self.now) c.push.new.self.items host c.requires c.in_ok-push.ensures.items none, c.in_ok-name.ensures.taken)
