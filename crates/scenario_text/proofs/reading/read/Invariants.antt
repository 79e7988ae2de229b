use Rattle.std.proofs.Common.{◌≤◌, ◌+◌, ◌-◌}
use Rattle.std.specs.Prelude.{IfSome}
use Rattle.scenario_text.specs.Reading.{IsReader, len_so_far, StillSays, StillNeeds}
use Rattle.scenario_text.proofs.reading.read.Given as goal

abbrev pub invariant-loop-taken : goal.invariant-loop-taken
invariant-loop-taken g l = record {
  says : IfSome (g.S.Source.left l.fn.source) (λ input. StillSays input l.taken (g.S.Source.left l.source) l.reader);
  needs : IfSome (g.S.Source.left l.fn.source) (λ input. StillNeeds input l.taken (g.S.Source.left l.source) l.reader);
  reader : IsReader l.reader;
  printed_len : len_so_far l.reader ≤ l.taken;
  short : l.reader.line ≤ 1 + l.taken;
  most : l.taken ≤ 16777216;
  counts : g.S.Source.faults l.fn.source ≤ g.S.Source.faults l.source;
}

abbrev pub decreases-loop-taken : goal.decreases-loop-taken
decreases-loop-taken g l = 16777216 - l.taken
