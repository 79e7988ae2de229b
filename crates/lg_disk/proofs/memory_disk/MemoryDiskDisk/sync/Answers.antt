use Rattle.std.proofs.Common.{refl}
use Rattle.lg_disk.specs.Disk.{Same}
use Rattle.lg_disk.specs.declared.call.Call.TheVariants.{Nothing, Sync}
use Rattle.lg_disk.proofs.Courses.{course, nothing_follows, sync_follows, state_ok, seen_kept, on_ok, durable}
use Rattle.lg_disk.proofs.memory_disk.MemoryDiskDisk.sync.Goals as goal

pub returns-clause-durable : goal.returns-clause-durable
returns-clause-durable c honest =
    on_ok c.enter.result (durable c.args.self.now c.enter.new.self)
    (state_ok c.enter.result Sync Nothing c.args.self.now c.enter.new.self c.enter.ensures.exact)

pub returns-clause-seen : goal.returns-clause-seen
returns-clause-seen c honest = seen_kept c.enter.result Sync c.args.self.now c.enter.new.self c.enter.ensures.exact refl

pub returns-clause-course : goal.returns-clause-course
returns-clause-course c =
    course c.enter.result Sync Nothing c.args.self.now c.enter.new.self Same c.enter.ensures.exact (λ f. refl)
    (sync_follows c.args.self.now) (nothing_follows Same c.args.self.now (λ f. refl))
