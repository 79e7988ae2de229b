use Rattle.std.specs.Io.KnownBytes.{Keeps}
use Rattle.lg_base.proofs.std_sink.write_again.Given as goal

abbrev pub invariant-loop : goal.invariant-loop
invariant-loop g l = Keeps (g.O.Write.contents l.initial.output) (g.O.Write.contents l.output)
