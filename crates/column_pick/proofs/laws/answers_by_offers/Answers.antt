use Rattle.column_pick.proofs.Following.{offers}
use Rattle.column_pick.proofs.laws.answers_by_offers.Goals as goal

pub returns : goal.returns
returns c = offers
