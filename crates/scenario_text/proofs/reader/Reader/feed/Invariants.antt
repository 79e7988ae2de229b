use Rattle.std.proofs.Common.{◌≤◌, ◌+◌, ◌-◌, length}
use Rattle.scenario_text.specs.Reading.{IsReader, len_so_far}
use Rattle.scenario_text.proofs.ReaderLemmas.{Same}
use Rattle.scenario_text.proofs.SpentLemmas.{SameNeeds}
use Rattle.scenario_text.proofs.reader.Reader.feed.Given as goal

abbrev pub invariant-loop-len : goal.invariant-loop-len
invariant-loop-len l = record {
  within : l.from ≤ length l.piece;
  same : Same l.fn.self l.piece l.self l.from;
  needs : SameNeeds l.fn.self l.piece l.self l.from;
  reader : IsReader l.self;
  printed_len : len_so_far l.self ≤ len_so_far l.fn.self + l.from;
  short : l.self.line ≤ l.fn.self.line + l.from;
}

abbrev pub decreases-loop-len : goal.decreases-loop-len
decreases-loop-len l = length l.piece - l.from
