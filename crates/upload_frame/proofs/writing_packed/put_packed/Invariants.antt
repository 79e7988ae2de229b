use Rattle.std.proofs.Common.{◌≡◌, ◌++◌, take}
use Rattle.std.specs.List.{flat_map}
use Rattle.upload_frame.specs.Pooled.{bytes_at}
use Rattle.upload_frame.proofs.writing_packed.put_packed.Given as goal

abbrev pub invariant-loop-place : goal.invariant-loop-place
invariant-loop-place l = l.out.items ≡ l.fn.out.items ++ flat_map (bytes_at l.pool) (take l.place-index l.places)
