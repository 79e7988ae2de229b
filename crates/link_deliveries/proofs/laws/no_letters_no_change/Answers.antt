use Rattle.link_deliveries.proofs.Coming.{no_letters}
use Rattle.link_deliveries.proofs.laws.no_letters_no_change.Goals as goal

pub returns : goal.returns
returns c = no_letters
