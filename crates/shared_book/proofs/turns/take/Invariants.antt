use Rattle.std.proofs.Common.{◌≡◌}
use Rattle.shared_book.specs.Steps.{IsSameSeat}
use Rattle.shared_book.proofs.turns.take.Given as goal

abbrev pub invariant-loop : goal.invariant-loop
invariant-loop g l = IsSameSeat l.initial.seat l.seat × (l.seat.me ≡ l.initial.seat.me)
