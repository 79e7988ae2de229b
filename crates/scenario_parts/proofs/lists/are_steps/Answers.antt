use Rattle.scenario_parts.proofs.lists.are_steps.Goals as goal

pub returns : goal.returns
returns c = (
  λ e. record {
    each = c.steps_fit.ensures.0 c.if-not-steps_fit.false;
    few_packets = c.are_few_packets.ensures.0 c.if-not-are_few_packets.false;
    few_ends = c.are_few_ends.ensures.0 e;
  },
  λ all. c.are_few_ends.ensures.1 all.few_ends,
)
