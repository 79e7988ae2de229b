use Rattle.std.proofs.Common.{arith, ◌+◌, length, map}
use Rattle.host_workers.specs.declared.sender.Job.{Job}
use Rattle.host_workers.proofs.Jobs.{split_ready, joined_from, ran, others, are_joined, all_joined, worker_of, worked}
use Rattle.host_workers.proofs.running.run_workers.Goals as goal

pub work_all-requires-clause-ready : goal.work_all-requires-clause-ready
work_all-requires-clause-ready g c κs within =
    let a = c.args in
    split_ready a.book.id a.book.first.entries a.first.view a.senders.items c.split_all.new.jobs.items c.split_all.ensures.jobs c.requires.view
    c.requires.calls

pub join_all-requires-clause-others : goal.join_all-requires-clause-others
join_all-requires-clause-others g c =
    let a = c.args in
    let first = a.book.first in
    let before = a.senders.items in
    let jobs = c.work_all.new.jobs.items in
    let r = ran first.shape first.room a.book.id first.entries before a.first.view c.split_all.new.jobs.items jobs c.split_all.ensures.jobs
    c.requires.view c.work_all.ensures.length c.work_all.ensures.works in
    others first.shape first.room a.book.id first.entries before jobs r

pub join_all-requires-clause-room : goal.join_all-requires-clause-room
join_all-requires-clause-room g c =
    let a = c.args in
    let first = a.book.first in
    let before = a.senders.items in
    let jobs = c.work_all.new.jobs.items in
    let r = ran first.shape first.room a.book.id first.entries before a.first.view c.split_all.new.jobs.items jobs c.split_all.ensures.jobs
    c.requires.view c.work_all.ensures.length c.work_all.ensures.works in
    let many = r.many in
    let room = c.requires.seats.done in
    omega (arith, many, room)

pub close-requires-clause-all : goal.close-requires-clause-all
close-requires-clause-all g c =
    let a = c.args in
    let first = a.book.first in
    let before = a.senders.items in
    let jobs = c.work_all.new.jobs.items in
    let u = c.join_all.new.first.view in
    let r = ran first.shape first.room a.book.id first.entries before a.first.view c.split_all.new.jobs.items jobs c.split_all.ensures.jobs
    c.requires.view c.work_all.ensures.length c.work_all.ensures.works in
    let joins = joined_from first.entries (length before + 1) a.first c.split_all.new.first (map (λ (j : Job). j.pass.view) jobs) u
    c.split_all.ensures.first c.requires.view c.join_all.ensures.joins in
    all_joined first.entries u (map worker_of jobs) (are_joined first.entries (length before) jobs u r.many joins)

pub returns-clause-worked : goal.returns-clause-worked
returns-clause-worked g c =
    let a = c.args in
    let first = a.book.first in
    let before = a.senders.items in
    let jobs = c.work_all.new.jobs.items in
    let u = c.join_all.new.first.view in
    let r = ran first.shape first.room a.book.id first.entries before a.first.view c.split_all.new.jobs.items jobs c.split_all.ensures.jobs
    c.requires.view c.work_all.ensures.length c.work_all.ensures.works in
    let joins = joined_from first.entries (length before + 1) a.first c.split_all.new.first (map (λ (j : Job). j.pass.view) jobs) u
    c.split_all.ensures.first c.requires.view c.join_all.ensures.joins in
    worked first.shape first.room a.book.id first.entries before jobs r u c.join_all.new.senders.items c.close.result.entries
    c.close.result.fault joins c.join_all.ensures.senders c.close.ensures.closes
