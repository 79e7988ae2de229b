use Rattle.std.proofs.Common.{List, ℕ, ◌∙◌, ap}
use Rattle.lg_disk.specs.Model.{run, start}
use Rattle.lg_disk.specs.Memory.{Medium, state}
use Rattle.lg_disk.specs.declared.call.Call.{Call}
use Rattle.lg_disk.proofs.Courses.{image_of}
use Rattle.lg_disk.proofs.memory_disk.MemoryDisk.image.Goals as goal

pub returns-clause-image : goal.returns-clause-image
returns-clause-image c =
    image_of c.image.result c.args.choice.now c.args.self.now c.in_ok-run.field-0
    (c.in_ok-run.ensures
    ∙ ap (λ (f : List ℕ). run (start f) c.deref-2.result.now) c.deref.ensures.value
    ∙ ap (λ (l : List Call). run (start c.self.inside.first.items) l) c.deref-2.ensures.value
    ∙ ap (λ (m : Medium). state m) c.self.view_is)
    c.image.ensures
