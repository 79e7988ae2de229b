use Rattle.std.proofs.Common.{◌≡◌, ◌≤◌, ◌+◌, ◌++◌, length}
use Rattle.std.specs.Vec.{vec_len, vec_capacity}
use Rattle.host_workers.specs.Working.{jobs_of}
use Rattle.host_workers.proofs.splitting.split_all.Given as goal

abbrev pub invariant-loop-sender : goal.invariant-loop-sender
invariant-loop-sender g l =
    let seen = l.fn.first.view.seen in
    record {
      can : (goal.iterator-loop-sender g).can_next l.sender-iterator;
      ends : (goal.iterator-loop-sender g).is_finite l.sender-iterator;
      first : l.first ≡ record l.fn.first { view = record l.fn.first.view { made = l.first.view.made } };
      jobs : l.jobs.items ++ jobs_of l.fn.book.id seen (l.first.view.made + 1) l.sender-iterator.rest.items
          ≡ jobs_of l.fn.book.id seen 2 l.fn.senders.items;
      many : l.first.view.made + length l.sender-iterator.rest.items ≡ length l.fn.senders.items + 1;
      room : vec_len l.jobs + length l.sender-iterator.rest.items ≤ vec_capacity l.jobs;
    }
