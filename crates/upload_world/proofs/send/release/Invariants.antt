use Rattle.std.proofs.Common.{◌≡◌, ◌++◌, take, map}
use Rattle.link_deliveries.specs.Deliveries.{heard}
use Rattle.upload_world.specs.Pumping.{MakesDue, dues, seqs}
use Rattle.upload_world.proofs.send.release.Given as goal

abbrev pub invariant-loop-sent : goal.invariant-loop-sent
invariant-loop-sent l = record {
  dues : dues l.due ≡ dues l.fn.due ++ map heard (seqs (take l.sent-index l.held));
  due : MakesDue l.held l.fn.due l.due;
}
