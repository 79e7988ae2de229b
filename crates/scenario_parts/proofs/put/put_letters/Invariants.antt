use Rattle.std.proofs.Common.{◌≡◌, take, map}
use Rattle.scenario_lines.specs.Spelling.{byte_of}
use Rattle.text_out.specs.Growing.{grown}
use Rattle.scenario_parts.proofs.put.put_letters.Given as goal

abbrev pub invariant-loop-letter : goal.invariant-loop-letter
invariant-loop-letter g l = g.T.TextOut.kind l.out ≡ grown (g.T.TextOut.kind l.fn.out) (map byte_of (take l.letter-index l.letters))
