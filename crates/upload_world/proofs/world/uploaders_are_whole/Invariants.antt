use Rattle.std.proofs.Common.{take}
use Rattle.std.specs.List.{AllByRecursion}
use Rattle.uploader_core.specs.Uploader.{IsUploader}
use Rattle.upload_world.proofs.world.uploaders_are_whole.Given as goal

abbrev pub invariant-loop-uploader : goal.invariant-loop-uploader
invariant-loop-uploader l = AllByRecursion IsUploader (take l.uploader-index l.uploaders)
