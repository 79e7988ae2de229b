use Rattle.std.proofs.Common.{List, [], ◌∷◌, ◌++◌, ◌∙◌, ap}
use Rattle.lg_disk.specs.declared.call.Call.{Call}
use Rattle.lg_disk.proofs.Courses.{kept_more}
use Rattle.lg_disk.proofs.memory_disk.MemoryDisk.carry.Goals as goal

pub invariant_of-self-2 : goal.invariant_of-self-2
invariant_of-self-2 c =
    kept_more c.self.inside.first.items c.self.inside.bytes.items c.change.new.bytes.items c.self.inside.calls.items c.push_reserved.new.self.items
    c.args.call c.self.invariant c.in_ok-change.ensures.ok
    (c.push_reserved.ensures.items ∙ ap (λ (l : List Call). l ++ c.args.call ∷ []) c.reserve.ensures.items)
