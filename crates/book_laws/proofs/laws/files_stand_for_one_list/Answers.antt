use Rattle.book_laws.proofs.Leaving.{standing}
use Rattle.book_laws.proofs.laws.files_stand_for_one_list.Goals as goal

pub returns : goal.returns
returns c = standing
