use Rattle.std.specs.Option.{option_map}
use Rattle.column_book.proofs.Walks.{IsLeft}
use Rattle.column_book.proofs.walking.next_in.Given as goal

abbrev pub invariant-loop-spot : goal.invariant-loop-spot
invariant-loop-spot l = IsLeft l.blocks.map.entries (option_map (λ k. k.now) l.after) l.spot-iterator
