use Rattle.link_deliveries.proofs.Coming.{law}
use Rattle.link_deliveries.proofs.laws.every_upload_comes.Goals as goal

pub returns : goal.returns
returns c = law
