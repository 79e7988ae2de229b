use Rattle.std.proofs.Common.{◌∙◌, arith, length, ap, ℕ, List, map, ◌++◌}
use Rattle.scenario_lines.specs.Draft.{view}
use Rattle.lg_model.specs.declared.scenario.Step.TheVariants.{Packet}
use Rattle.scenario_lines.proofs.KeepingLemmas.{step_more}
use Rattle.scenario_lines.proofs.WeightLemmas.{open_packet, step_weighs}
use Rattle.std.specs.Fmt.{decimal}
use Rattle.scenario_lines.specs.Spelling.{size, burst_words, fate_words}
use Rattle.scenario_lines.proofs.SizeLemmas.{size_append}
use Rattle.scenario_lines.proofs.draft.Draft.packet.Goals as goal

pub returns-clause-fits : goal.returns-clause-fits
returns-clause-fits c =
    let delays = ap length c.of_few-delays.ensures ∙ c.in_ok-delays.ensures.count in
    let path = ap length c.path_of-path.ensures.value in
    step_more (view c.args.self.now) c.push.new.self.items
    (Packet c.in_ok-flow_at.flow_at c.in_ok-size.size c.of_few-delays.result c.in_ok-burst.burst c.in_ok-fate.fate) c.requires.fits
    (record {
      flow = c.in_ok-flow_at.ensures.bound;
      size = omega (arith, c.in_ok-size.ensures.bound);
      each_delay = rw c.of_few-delays.ensures c.in_ok-delays.ensures.small;
      hops = omega (arith, delays, path);
      reach = rw (← path) c.in_ok-fate.ensures.bound;
      some = c.in_ok-burst.ensures.some;
    })
    c.in_ok-push.ensures.items
    (omega (arith, c.in_ok-room_up_to.ensures.fits, c.args.self.now.counted))
    (λ i lt. omega (arith, c.requires.fits.scenario.steps.few_ends i lt))

pub returns-clause-printed_len : goal.returns-clause-printed_len
returns-clause-printed_len c =
    let delays = ap (λ (ds : List ℕ). size (map decimal ds)) c.of_few-delays.ensures in
    let tail = size_append (map decimal c.of_few-delays.result) (burst_words c.in_ok-burst.burst ++ fate_words c.in_ok-fate.fate) in
    let end = size_append (burst_words c.in_ok-burst.burst) (fate_words c.in_ok-fate.fate) in
    omega (
      arith,
      step_weighs (view c.args.self.now) c.push.new.self.items
          (Packet c.in_ok-flow_at.flow_at c.in_ok-size.size c.of_few-delays.result c.in_ok-burst.burst c.in_ok-fate.fate)
          (open_packet c.args.self.now.section c.requires.section) c.in_ok-push.ensures.items,
      delays,
      tail,
      end,
      ap (λ (n : ℕ). length (decimal n)) c.in_ok-flow_at.ensures.named,
      c.in_ok-name.ensures.taken,
      c.in_ok-size.ensures.taken,
      c.in_ok-delays.ensures.taken,
      c.in_ok-burst.ensures.taken,
      c.in_ok-fate.ensures.taken,
    )
