use Rattle.std.proofs.Common.{◌∙◌, ◌+◌, sym, ap}
use Rattle.lg_model.specs.Keeping.{ends_of}
use Rattle.lg_model.specs.Scenario.{Scenario}
use Rattle.scenario_lines.proofs.CountLemmas.{zeros}
use Rattle.scenario_lines.proofs.draft.Draft.new.Goals as goal

pub invariant_of-result-clause-ended : goal.invariant_of-result-clause-ended
invariant_of-result-clause-ended c = λ i lt. ap (λ n. n + 0) (zeros 64 i) ∙ sym (ap (ends_of i) (ap (λ (w : Scenario). w.steps) c.no_parts.ensures))
