use Rattle.std.proofs.Common.{rules, ◌≡◌, sym, subst, [], ◌∷◌, List, map}
use Rattle.std.proofs.lemmas.List.{map-append}
use Rattle.std.proofs.lemmas.List.Elements.{All-rest}
use Rattle.lock_rule.specs.declared.view.View.{View}
use Rattle.host_workers.specs.Working.{JoinsAll}
use Rattle.host_workers.specs.declared.sender.Job.{Job}
use Rattle.host_workers.proofs.Jobs.{joins_more, senders_more, given_more}
use Rattle.host_workers.proofs.joining.join_all.Goals as goal

pub loop-job-preserved : goal.loop-job-preserved
loop-job-preserved g c =
    let i = c.loop-job.invariant in
    let given = c.loop-job.yielded in
    let job = c.in-Some.job in
    let rest = c.next.new.self.rest.items in
    let first = c.args.first.now.view in
    record {
      can = tt;
      ends = tt;
      book = search rules;
      others = All-rest (λ (j : Job). (j.pass.book ≡ c.args.book.now.id) × (j.pass.view.number ≡ 1 → ⊥)) job rest
          c.loop-job.job-iterator.rest.items c.in-Some.ensures.steps.0 i.others;
      joins = subst (λ (ws : List View). JoinsAll first ws c.join.new.pass.view) (sym (map-append (λ (j : Job). j.pass.view) given (job ∷ [])))
          (joins_more first (map (λ (j : Job). j.pass.view) given) c.loop-job.first.view job.pass.view c.join.new.pass.view i.joins c.join.ensures.joins);
      senders = senders_more c.loop-job.senders.items c.push_reserved.new.self.items given job c.push_reserved.ensures.items i.senders;
      split = given_more given c.loop-job.job-iterator.rest.items rest c.args.jobs.items job c.in-Some.ensures.steps.0 i.split;
      room = search rules;
    }
