use Rattle.std.proofs.Common.{ap, subst, arith, length, List}
use Rattle.std.specs.List.{AllByRecursion}
use Rattle.uploader_core.specs.Uploader.{UploaderState, IsUploader}
use Rattle.upload_world.specs.Kept.{world_of}
use Rattle.upload_world.proofs.Running.{sound_start}
use Rattle.upload_world.proofs.world.World.new.Goals as goal

pub invariant_of-result : goal.invariant_of-result
invariant_of-result c =
    let w = world_of c.args.uploaders.items c.new.result.items c.new-2.result.items c.args.book in
    record {
      sound = sound_start w (record {
        uploaders = subst (λ (us : List UploaderState). AllByRecursion IsUploader us) c.deref.ensures.value c.uploaders_are_whole.ensures;
        hosts = c.requires.hosts;
        none = c.requires.none;
        frames = c.new.ensures.items;
        replies = c.new-2.ensures.items;
        once = c.count.ensures.book.apart;
      });
      few_frames = omega (arith, ap length c.new.ensures.items);
      few_replies = omega (arith, ap length c.new-2.ensures.items);
    }
