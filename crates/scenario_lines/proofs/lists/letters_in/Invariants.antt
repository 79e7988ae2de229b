use Rattle.std.proofs.Common.{◌≡◌, take, map}
use Rattle.scenario_lines.specs.Fields.{letter_of}
use Rattle.scenario_lines.proofs.lists.letters_in.Given as goal

abbrev pub invariant-loop-b : goal.invariant-loop-b
invariant-loop-b l = l.letters.items ≡ map letter_of (take l.b-index l.word)
