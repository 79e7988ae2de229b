use Rattle.upload_world.proofs.Running.{law}
use Rattle.upload_world.proofs.laws.acknowledged_is_kept.Goals as goal

pub returns : goal.returns
returns c = law
