use Rattle.lg_disk.specs.Memory.{first_half}
use Rattle.lg_disk.specs.declared.call.Call.TheVariants.{Write}
use Rattle.lg_disk.proofs.Courses.{settled, unfed, written_part, write_course, state_ok, on_ok, holds}
use Rattle.lg_disk.proofs.memory_disk.MemoryDiskDisk.write_at.Goals as goal

exact : goal.returns-in-Ok-clause-exact
exact c =
    settled c.settle.result c.fails_next-fails.result (Write c.args.at c.args.bytes.now) (Write c.args.at (first_half c.args.bytes.now)) _
    c.args.self.now c.fails_next-fails.new.self c.settle.new.self c.fails_next-fails.ensures.due c.fails_next-fails.ensures.counted
    (written_part c.args.at c.args.bytes.now c.in-Ok.bytes c.fails_next-fails.result c.in-Ok.ensures) c.settle.ensures.ok c.settle.ensures.err

pub returns-in-Ok-clause-exact : goal.returns-in-Ok-clause-exact
returns-in-Ok-clause-exact = exact

pub returns-in-Ok-clause-course : goal.returns-in-Ok-clause-course
returns-in-Ok-clause-course c = write_course c.settle.result c.args.at c.args.bytes.now c.args.self.now c.settle.new.self (exact c)

pub returns-in-Ok-clause-written : goal.returns-in-Ok-clause-written
returns-in-Ok-clause-written c honest le =
    on_ok c.settle.result (holds c.args.self.now c.settle.new.self c.args.at c.args.bytes.now le)
    (state_ok c.settle.result (Write c.args.at c.args.bytes.now) (Write c.args.at (first_half c.args.bytes.now)) c.args.self.now c.settle.new.self (exact c))

pub returns-in-Err-clause-course : goal.returns-in-Err-clause-course
returns-in-Err-clause-course c =
    write_course c.starve.result c.args.at c.args.bytes.now c.args.self.now c.starve.new.self
    (unfed c.starve.result _ _ c.args.self.now c.fails_next-fails.new.self c.starve.new.self
    c.starve.ensures.err c.fails_next-fails.ensures.counted c.starve.ensures.starved)
