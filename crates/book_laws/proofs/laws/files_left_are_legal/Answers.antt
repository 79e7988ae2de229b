use Rattle.book_laws.proofs.Leaving.{law}
use Rattle.book_laws.proofs.laws.files_left_are_legal.Goals as goal

pub returns : goal.returns
returns g c = law (g.D.Disk.images c.args.old.now) (g.D.Disk.images c.args.new.now) (g.D.Disk.since c.args.new.now (g.D.Disk.moment c.args.old.now))
