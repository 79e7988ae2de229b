use Rattle.book_file.proofs.OneAnswer.{one_answer}
use Rattle.book_file.proofs.laws.files_have_one_answer.Goals as goal

pub returns : goal.returns
returns c = one_answer
