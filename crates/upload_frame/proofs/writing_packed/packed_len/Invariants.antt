use Rattle.std.proofs.Common.{◌≡◌, ◌≤◌, ◌*◌, length, take}
use Rattle.std.specs.List.{flat_map}
use Rattle.upload_frame.specs.Pooled.{bytes_at}
use Rattle.upload_frame.proofs.writing_packed.packed_len.Given as goal

abbrev pub invariant-loop-place : goal.invariant-loop-place
invariant-loop-place l = (l.len ≡ length (flat_map (bytes_at l.pool) (take l.place-index l.places))) × (l.len ≤ 62 * l.place-index)
