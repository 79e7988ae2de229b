use Rattle.std.proofs.Common.{◌≡◌}
use Rattle.host_collect.specs.PackedUploads.{columns_at}
use Rattle.host_collect.proofs.PackedCuts.{HasEnds}
use Rattle.host_collect.proofs.packed_uploads.ends_of.Given as goal

abbrev pub invariant-loop-place : goal.invariant-loop-place
invariant-loop-place l = HasEnds (columns_at l.pool l.places) l.place-index l.ends.items l.held.items × (l.taken ≡ l.place-index)
