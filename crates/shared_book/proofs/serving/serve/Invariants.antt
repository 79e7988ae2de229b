use Rattle.std.proofs.Common.{Some}
use Rattle.shared_book.proofs.serving.serve.Given as goal

abbrev pub ghosts-take : goal.ghosts-take
ghosts-take g a = record { start = Some a.top.now.key.value }
