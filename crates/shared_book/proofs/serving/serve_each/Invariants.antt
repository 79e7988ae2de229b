use Rattle.std.proofs.Common.{◌≡◌, ◌≤◌, Some, length, vec_len, vec_capacity}
use Rattle.std.specs.Prelude.{◌-◌}
use Rattle.shared_book.specs.Steps.{IsSameSeat}
use Rattle.shared_book.proofs.Chained.{InTurn}
use Rattle.shared_book.proofs.Turning.{Goes}
use Rattle.shared_book.proofs.serving.serve_each.Given as goal

abbrev pub ghosts-take : goal.ghosts-take
ghosts-take g a = record { start = Some a.top.now.key.value }

abbrev pub invariant-calls : goal.invariant-calls
invariant-calls g l = record {
  same : IsSameSeat l.fn.seat l.seat;
  goes : Goes g.D.Disk.honest g.D.Disk.seen g.D.Disk.images g.D.Disk.moment g.D.Disk.since g.D.Disk.faults l.top.key.value l.journal;
  turn : InTurn l.top.key.value.shape l.top.key.value.room l.uploads l.fn.seat.me.0 l.at l.seat.me l.journal l.answers.items l.answer;
  count : vec_len l.answers ≡ l.at;
  room : length l.uploads ≤ vec_capacity l.answers;
}

abbrev pub decreases-calls : goal.decreases-calls
decreases-calls g l = length l.uploads - l.at
