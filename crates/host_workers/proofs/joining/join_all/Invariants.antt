use Rattle.std.proofs.Common.{◌≡◌, ◌≢◌, ◌≤◌, ◌+◌, ◌++◌, length, map, All}
use Rattle.std.specs.Vec.{vec_len, vec_capacity}
use Rattle.host_workers.specs.Working.{JoinsAll}
use Rattle.host_workers.specs.declared.sender.Job.{Job}
use Rattle.host_workers.proofs.joining.join_all.Given as goal

abbrev pub invariant-loop-job : goal.invariant-loop-job
invariant-loop-job g l = record {
  can : (goal.iterator-loop-job g).can_next l.job-iterator;
  ends : (goal.iterator-loop-job g).is_finite l.job-iterator;
  book : l.first.book ≡ l.fn.first.book;
  others : All (λ (j : Job). (j.pass.book ≡ l.fn.book.id) × (j.pass.view.number ≢ 1)) l.job-iterator.rest.items;
  joins : JoinsAll l.fn.first.view (map (λ (j : Job). j.pass.view) l.yielded) l.first.view;
  senders : l.senders.items ≡ map (λ (j : Job). j.sender) l.yielded;
  split : l.yielded ++ l.job-iterator.rest.items ≡ l.fn.jobs.items;
  room : vec_len l.senders + length l.job-iterator.rest.items ≤ vec_capacity l.senders;
}
