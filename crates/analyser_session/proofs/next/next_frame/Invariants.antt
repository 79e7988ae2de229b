use Rattle.std.proofs.Common.{◌≡◌, ◌+◌, ◌-◌, ◌≤◌, ◌++◌, ℕ, List, None, length}
use Rattle.std.specs.Io.KnownBytes.{Consumes}
use Rattle.analyser_session.proofs.next.next_frame.Given as goal

abbrev pub invariant-loop-frame : goal.invariant-loop-frame
invariant-loop-frame g l = record {
  clear : l.reader.fault ≡ None;
  small : length l.reader.rest ≤ 5097;
  same : l.reader.taken ≡ l.fn.reader.taken;
  piece : List ℕ;
  consumed : Consumes (g.S.Source.left l.fn.source) (g.S.Source.left l.source) piece;
  rest : l.reader.rest ≡ l.fn.reader.rest ++ piece;
  count : l.taken ≡ l.fn.taken + length piece;
  long : length l.buf ≡ 4096;
  later : g.S.Source.faults l.fn.source ≤ g.S.Source.faults l.source;
}

abbrev pub decreases-loop-frame : goal.decreases-loop-frame
decreases-loop-frame g l = 5098 - length l.reader.rest
