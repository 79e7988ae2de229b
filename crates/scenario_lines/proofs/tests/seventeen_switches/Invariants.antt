use Rattle.scenario_lines.specs.Draft.{FitsSoFar}
use Rattle.scenario_lines.proofs.tests.seventeen_switches.Given as goal

abbrev pub invariant-loop-line : goal.invariant-loop-line
invariant-loop-line g l = FitsSoFar l.draft

abbrev pub invariant-loop-line-2 : goal.invariant-loop-line-2
invariant-loop-line-2 g l = FitsSoFar l.draft
