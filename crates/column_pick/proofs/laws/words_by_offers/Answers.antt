use Rattle.column_pick.proofs.Following.{words}
use Rattle.column_pick.proofs.laws.words_by_offers.Goals as goal

pub returns : goal.returns
returns c = words
