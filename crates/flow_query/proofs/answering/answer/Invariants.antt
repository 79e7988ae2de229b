use Rattle.std.proofs.Common.{◌≡◌, ◌≤◌}
use Rattle.lg_model.specs.Answer.{look_in}
use Rattle.column_book.specs.Entries.{content}
use Rattle.flow_query.specs.Least.{known_of, known_to}
use Rattle.flow_query.proofs.answering.answer.Given as goal

abbrev pub invariant-loop-row : goal.invariant-loop-row
invariant-loop-row l = (l.known ≡ known_of (known_to (look_in (content l.book.entries)) l.book.shape l.switch l.epoch l.key l.row)) × (l.known.rows ≤ l.row)
