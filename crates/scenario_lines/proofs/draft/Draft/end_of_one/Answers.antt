use Rattle.std.proofs.Common.{◌<◌, length, arith, ap, ℕ}
use Rattle.lg_model.specs.declared.scenario.Step.TheVariants.{End}
use Rattle.lg_model.specs.Scenario.{packet_count}
use Rattle.scenario_lines.proofs.CountLemmas.{end_counted, packets_more}
use Rattle.lg_model.specs.Keeping.{ends_of}
use Rattle.scenario_lines.specs.Draft.{view}
use Rattle.scenario_lines.proofs.KeepingLemmas.{step_more, end_fits}
use Rattle.scenario_lines.proofs.WeightLemmas.{open_end, step_weighs}
use Rattle.std.specs.Fmt.{decimal}
use Rattle.scenario_lines.proofs.draft.Draft.end_of_one.Goals as goal

pub invariant_of-self-2-clause-counted : goal.invariant_of-self-2-clause-counted
invariant_of-self-2-clause-counted c =
    let more = packets_more c.args.self.now.parts.steps.items (End c.in_ok-switch_at.switch_at) in
    omega (arith, ap packet_count c.in_ok-push.ensures.items, more, c.args.self.now.counted)

pub invariant_of-self-2-clause-ended : goal.invariant_of-self-2-clause-ended
invariant_of-self-2-clause-ended c =
    λ i lt. end_counted c.args.self.now.ends c.args.self.now.ends_of_all c.in_ok-switch_at.switch_at i c.args.self.now.parts.steps.items
    c.push.new.self.items c.in_ok-push.ensures.items
    (omega (arith, c.in_ok-switch_at.ensures.bound, ap length c.deref.ensures.value, c.args.self.now.few_switches)) (c.args.self.now.ended i lt)

pub returns-clause-fits : goal.returns-clause-fits
returns-clause-fits c =
    let at : c.in_ok-switch_at.switch_at < length c.args.self.now.parts.switches.items =
    omega (arith, c.in_ok-switch_at.ensures.bound, ap length c.deref.ensures.value) in
    let room : ends_of c.in_ok-switch_at.switch_at c.args.self.now.parts.steps.items < 65535 =
    omega (arith, c.in_ok-room_for.ensures.fits, c.ends_at.ensures) in
    step_more (view c.args.self.now) c.push.new.self.items (End c.in_ok-switch_at.switch_at) c.requires.fits at c.in_ok-push.ensures.items
    (omega (arith, c.requires.fits.scenario.steps.few_packets))
    (λ i lt. end_fits (view c.args.self.now) c.in_ok-switch_at.switch_at i c.requires.fits room lt)

pub returns-clause-printed_len : goal.returns-clause-printed_len
returns-clause-printed_len c =
    let name = rw c.deref.ensures.value at c.in_ok-switch_at.ensures.named in
    omega (
      arith,
      step_weighs (view c.args.self.now) c.push.new.self.items (End c.in_ok-switch_at.switch_at)
          (open_end c.args.self.now.section c.requires.section) c.in_ok-push.ensures.items,
      ap (λ (n : ℕ). length (decimal n)) name,
      c.in_ok-switch.ensures.taken,
      c.in_ok-end_field.ensures.taken,
    )
