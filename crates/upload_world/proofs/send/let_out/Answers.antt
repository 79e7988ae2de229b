use Rattle.std.proofs.Common.{◌++◌, ◌∙◌, ap, subst, map, ℕ, List}
use Rattle.link_deliveries.specs.Deliveries.{heard}
use Rattle.upload_world.specs.declared.deliver.Sent.{Sent}
use Rattle.upload_world.specs.Pumping.{MakesDue, dues, seqs}
use Rattle.upload_world.proofs.Dues.{lets_go}
use Rattle.upload_world.proofs.send.let_out.Goals as goal

pub returns-in_ok-release-in-Deliver : goal.returns-in_ok-release-in-Deliver
returns-in_ok-release-in-Deliver c =
    let a = c.args in
    let e = c.in_ok-release-in-Deliver.ensures in
    let all = lets_go a.letter c.in-Deliver.is (seqs a.held.now.items) a.held.now.items in
    record {
      held = c.clear.ensures.items ∙ all.1;
      dues = e.dues ∙ (ap (λ (x : List Sent). dues a.due.now ++ map heard (seqs x)) c.deref.ensures.value
          ∙ ap (λ (x : List ℕ). dues a.due.now ++ map heard x) all.0);
      due = subst (λ (x : List Sent). MakesDue x a.due.now c.release.new.due) c.deref.ensures.value e.due;
    }
