use Rattle.std.proofs.Common.{refl}
use Rattle.lg_disk.specs.Disk.{Same}
use Rattle.lg_disk.specs.declared.call.Call.TheVariants.{Nothing}
use Rattle.lg_disk.proofs.Courses.{course, nothing_follows, seen_kept}
use Rattle.lg_disk.proofs.memory_disk.MemoryDisk.look.Goals as goal

pub returns-clause-seen : goal.returns-clause-seen
returns-clause-seen c = seen_kept c.enter.result Nothing c.args.self.now c.enter.new.self c.enter.ensures.exact refl

pub returns-clause-course : goal.returns-clause-course
returns-clause-course c =
    let nothing = nothing_follows Same c.args.self.now (λ f. refl) in
    course c.enter.result Nothing Nothing c.args.self.now c.enter.new.self Same c.enter.ensures.exact (λ f. refl) nothing nothing
