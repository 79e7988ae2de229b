use Rattle.std.proofs.Common.{◌≤◌}
use Rattle.bench_parts.specs.Fed.{held}
use Rattle.bench_parts.proofs.frames.send.Given as goal

abbrev pub invariant-loop : goal.invariant-loop
invariant-loop l = held l.stream.reader ≤ l.stream.fed
