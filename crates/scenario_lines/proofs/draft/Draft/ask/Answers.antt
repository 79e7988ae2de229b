use Rattle.std.proofs.Common.{ℕ, arith, length, ap}
use Rattle.std.specs.Fmt.{decimal}
use Rattle.scenario_lines.specs.Draft.{view}
use Rattle.scenario_lines.proofs.WeightLemmas.{ask_weighs}
use Rattle.scenario_lines.proofs.draft.Draft.ask.Goals as goal

pub returns-clause-printed_len : goal.returns-clause-printed_len
returns-clause-printed_len c =
    omega (
      arith,
      ask_weighs (view c.args.self.now) c.push.new.self.items
          (record {
            flow_at = c.in_ok-flow_at.flow_at;
            switch = c.in_ok-switch.switch;
            epoch = c.in_ok-epoch.epoch;
          }) c.requires.section c.in_ok-push.ensures.items,
      ap (λ (n : ℕ). length (decimal n)) c.in_ok-flow_at.ensures.named,
      c.in_ok-flow.ensures.taken,
      c.in_ok-switch.ensures.taken,
      c.in_ok-epoch.ensures.taken,
      c.in_ok-end_field.ensures.taken,
    )
