use Rattle.std.proofs.Common.{◌≤◌}
use Rattle.bench_parts.specs.Fed.{held}
use Rattle.bench_parts.proofs.frames.sent.Given as goal

abbrev pub invariant-loop-n : goal.invariant-loop-n
invariant-loop-n l = held l.stream.reader ≤ l.stream.fed
