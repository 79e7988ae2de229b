use Rattle.std.proofs.Common.{ap}
use Rattle.lg_disk.specs.Disk.{Shorter}
use Rattle.lg_disk.specs.Model.{State}
use Rattle.lg_disk.specs.declared.call.Call.TheVariants.{Nothing, Cut}
use Rattle.lg_disk.proofs.Images.{shorter_same}
use Rattle.lg_disk.proofs.Courses.{course, nothing_follows, cut_follows, state_ok, on_ok}
use Rattle.lg_disk.proofs.memory_disk.MemoryDiskDisk.cut.Goals as goal

pub returns-clause-cut : goal.returns-clause-cut
returns-clause-cut c honest =
    on_ok c.enter.result (ap (λ (s : State). s.seen)) (state_ok c.enter.result (Cut c.args.len) Nothing c.args.self.now c.enter.new.self c.enter.ensures.exact)

pub returns-clause-course : goal.returns-clause-course
returns-clause-course c =
    let still = shorter_same c.args.len in
    course c.enter.result (Cut c.args.len) Nothing c.args.self.now c.enter.new.self (Shorter c.args.len) c.enter.ensures.exact still
    (cut_follows c.args.self.now c.args.len) (nothing_follows (Shorter c.args.len) c.args.self.now still)
