use Rattle.std.proofs.Common.{rules, ap, ◌∙◌}
use Rattle.shared_book.proofs.Turning.{looks_from}
use Rattle.shared_book.proofs.turns.take.Goals as goal

pub load-serving-requires : goal.load-serving-requires
load-serving-requires g c =
    let same = c.loop.invariant.1 in (
      search rules,
      search rules,
      looks_from g.D.Disk.honest g.D.Disk.seen g.D.Disk.images g.D.Disk.moment g.D.Disk.since g.D.Disk.faults
          c.args.top.now.key.value g.O.Origin.start _ _ _ c.args.ticket c.requires.origin
          (ap (λ m. m.0.live) same ∙ c.requires.live) (ap (λ m. m.0.doing) same ∙ c.requires.drew),
    )
