use Rattle.std.proofs.Common.{◌≡◌, ◌++◌, map, take, drop}
use Rattle.uploader_core.specs.Uploader.{replied}
use Rattle.upload_world.proofs.steps.show.Given as goal

abbrev pub invariant-loop-uploader : goal.invariant-loop-uploader
invariant-loop-uploader l = l.uploaders ≡ map (λ u. replied u l.reply) (take l.uploader-index l.initial.uploaders) ++ drop l.uploader-index l.initial.uploaders
