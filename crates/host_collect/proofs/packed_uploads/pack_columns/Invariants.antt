use Rattle.std.proofs.Common.{◌≤◌, ◌<◌, All, length, take}
use Rattle.lg_model.specs.declared.limits.TheConstants.{MOST_SKETCHLET_BYTES}
use Rattle.lg_model.specs.Matching.{Matched}
use Rattle.sketchlet_wire.specs.Packing.{IsPacked}
use Rattle.upload_frame.specs.Pooled.{items_at}
use Rattle.host_collect.specs.PackedUploads.{columns_at}
use Rattle.host_collect.proofs.packed_uploads.pack_columns.Given as goal

abbrev pub invariant-loop-item : goal.invariant-loop-item
invariant-loop-item l = All (λ p. p.len ≤ MOST_SKETCHLET_BYTES) (take l.item-index l.pool)

abbrev pub invariant-loop-place : goal.invariant-loop-place
invariant-loop-place l =
    All (λ k. k < length l.pool) (take l.place-index l.places)
    × Matched IsPacked (items_at l.pool (take l.place-index l.places)) (columns_at l.pool (take l.place-index l.places))
