use Rattle.std.proofs.Common.{take}
use Rattle.std.specs.List.{AllByRecursion}
use Rattle.sketchlet_wire.specs.Uploads.{IsFull}
use Rattle.uploader_core.proofs.uploads.uploads_are_full.Given as goal

abbrev pub invariant-loop-upload : goal.invariant-loop-upload
invariant-loop-upload l = AllByRecursion IsFull (take l.upload-index l.uploads)
