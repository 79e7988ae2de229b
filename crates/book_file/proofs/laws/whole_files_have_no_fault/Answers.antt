use Rattle.book_file.proofs.Complete.{whole_law}
use Rattle.book_file.proofs.laws.whole_files_have_no_fault.Goals as goal

pub returns : goal.returns
returns c = whole_law
