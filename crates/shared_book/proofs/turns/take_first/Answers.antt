use Rattle.std.proofs.Common.{rules}
use Rattle.shared_book.proofs.Turning.{looks_from}
use Rattle.shared_book.proofs.turns.take_first.Goals as goal

pub load-requires : goal.load-requires
load-requires g c = (
  search rules,
  search rules,
  looks_from g.D.Disk.honest g.D.Disk.seen g.D.Disk.images g.D.Disk.moment g.D.Disk.since g.D.Disk.faults
      c.args.top.now.key.value g.O.Origin.start _ _ _ 0 c.requires.origin c.requires.live c.requires.drew,
)
