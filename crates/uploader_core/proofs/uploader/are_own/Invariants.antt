use Rattle.std.proofs.Common.{◌≡◌, ℕ, ◌<◌, Some}
use Rattle.std.specs.Prelude.{slice_get}
use Rattle.sketchlet_wire.specs.Uploads.{UploadData}
use Rattle.uploader_core.proofs.uploader.are_own.Given as goal

abbrev pub invariant-loop-seq : goal.invariant-loop-seq
invariant-loop-seq l = (k : ℕ) (u : UploadData) → k < l.seq → slice_get l.uploads k ≡ Some u → (u.host ≡ l.host) × (u.seq ≡ k)
