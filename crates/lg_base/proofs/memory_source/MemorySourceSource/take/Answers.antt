use Rattle.std.proofs.Common.{◌+◌, ap, length, arith, length-drop, drop_of_length-le}
use Rattle.lg_base.specs.Fakes.{SourceState}
use Rattle.lg_base.proofs.Appending.{front_and_rest, slice_rest}
use Rattle.lg_base.proofs.memory_source.MemorySourceSource.take.Goals as goal

pub returns-clause-bytes : goal.returns-clause-bytes
returns-clause-bytes c =
    let at = c.self.inside.at in
    let bytes = c.self.inside.bytes.items in
    let left = ap (λ (s : SourceState). s.left) c.self.view_is in
    let count = c.copy_front-count.ensures.count in
    let copied = rw c.deref.ensures.value at c.copy_front-count.ensures.bytes in (
      front_and_rest c.copy_front-count.result at bytes c.copy_front-count.new.buf _ left copied,
      λ none room. drop_of_length-le bytes {i = at + c.copy_front-count.result} (omega (arith, length-drop at bytes, ap length (slice_rest at bytes), ap length c.deref.ensures.value)),
    )
