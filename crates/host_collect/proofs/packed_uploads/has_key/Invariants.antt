use Rattle.std.proofs.Common.{◌≡◌, take, false}
use Rattle.std.specs.List.{list_any}
use Rattle.sketchlet_wire.specs.Uploads.{same_column_key}
use Rattle.host_collect.proofs.packed_uploads.has_key.Given as goal

abbrev pub invariant-loop-k : goal.invariant-loop-k
invariant-loop-k l = list_any (λ k. same_column_key k l.key) (take l.k-index l.held) ≡ false
