use Rattle.std.proofs.Common.{arith, ap, length, ℕ}
use Rattle.scenario_lines.specs.Draft.{view}
use Rattle.scenario_lines.proofs.KeepingLemmas.{host_linked}
use Rattle.scenario_lines.proofs.WeightLemmas.{link_weighs}
use Rattle.std.specs.Fmt.{decimal}
use Rattle.scenario_lines.proofs.draft.Draft.link.Goals as goal

pub returns-clause-fits : goal.returns-clause-fits
returns-clause-fits c = host_linked
    (view c.args.self.now) c.set_letters.new.hosts.items c.in_ok-at.at c.in_ok-letters.letters c.requires c.set_letters.ensures c.in_ok-letters.ensures.few

pub returns-clause-printed_len : goal.returns-clause-printed_len
returns-clause-printed_len c =
    let name = rw c.deref.ensures.value at c.in_ok-at.ensures.named in
    omega (
      arith,
      link_weighs (view c.args.self.now) c.set_letters.new.hosts.items c.in_ok-at.at c.in_ok-letters.letters c.set_letters.ensures
          c.in_ok-unlinked_host.ensures,
      ap (λ (n : ℕ). length (decimal n)) name,
      c.in_ok-host.ensures.taken,
      c.in_ok-letters.ensures.taken,
      c.in_ok-end_field.ensures.taken,
    )
