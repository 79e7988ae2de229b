use Rattle.book_file.proofs.WorkedOnes.{worked_files}
use Rattle.book_file.proofs.laws.worked_files.Goals as goal

pub returns : goal.returns
returns c = worked_files
