use Rattle.std.specs.Prelude.{◌≡◌, ◌≤◌}
use Rattle.column_book.specs.Tally.{tally}
use Rattle.column_book.proofs.book.Book.known.Given as goal

abbrev pub invariant-loop-index : goal.invariant-loop-index
invariant-loop-index l = record { count : l.count ≡ tally l.self-inside.blocks.map.entries l.switch l.epoch l.index; few : l.count ≤ l.index }
