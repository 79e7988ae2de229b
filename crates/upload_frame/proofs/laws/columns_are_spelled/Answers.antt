use Rattle.upload_frame.proofs.ColumnsOf.{law}
use Rattle.upload_frame.proofs.laws.columns_are_spelled.Goals as goal

pub returns : goal.returns
returns c = law
