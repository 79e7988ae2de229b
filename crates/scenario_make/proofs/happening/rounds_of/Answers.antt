use Rattle.std.specs.Prelude.{List, ◌++◌}
use Rattle.std.proofs.Common.{ap, sym, ◌∙◌}
use Rattle.lg_model.specs.declared.scenario.Step.{Step}
use Rattle.scenario_make.specs.Generator.{generated_round}
use Rattle.scenario_make.proofs.Lists.{pieces_more}
use Rattle.scenario_make.proofs.happening.rounds_of.Goals as goal

pub loop-round-preserved : goal.loop-round-preserved
loop-round-preserved c =
    c.in_ok-put_round.ensures ∙ ap (λ (xs : List Step). xs ++ generated_round c.args.rounds c.loop-round.round) c.loop-round.invariant
    ∙ sym (pieces_more (generated_round c.args.rounds) c.loop-round.round)
