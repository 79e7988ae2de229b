use Rattle.std.proofs.Common.{◌++◌, ◌∙◌, [], ◌∷◌, sym, ap, map, take, append_assoc, List}
use Rattle.link_deliveries.specs.Deliveries.{Delivery, heard}
use Rattle.upload_world.specs.Pumping.{dues, seqs}
use Rattle.upload_world.proofs.Chained.{held_one}
use Rattle.upload_world.proofs.Dues.{held_more}
use Rattle.upload_world.proofs.send.release.Goals as goal

pub loop-sent-preserved : goal.loop-sent-preserved
loop-sent-preserved c =
    let l = c.loop-sent in
    let held = c.args.held.now in
    let x = c.sent-item.result in
    let old = dues c.args.due.now in
    let e = c.in_ok-deliver.ensures in
    record {
      dues = e.dues ∙ (ap (λ (ds : List Delivery). ds ++ heard x.seq ∷ []) l.invariant.dues
          ∙ (append_assoc old (map heard (seqs (take l.sent-index held))) (heard x.seq ∷ [])
          ∙ ap (λ (ds : List Delivery). old ++ ds) (sym (held_one held l.sent-index x c.loop-sent-test.true c.sent-item.is))));
      due = held_more held l.sent-index x c.args.due.now l.due c.deliver.new.due c.loop-sent-test.true c.sent-item.is l.invariant.due e.due;
    }
