use Rattle.std.proofs.Common.{Some}
use Rattle.shared_book.proofs.book.share.Given as goal

abbrev pub ghosts-take_first : goal.ghosts-take_first
ghosts-take_first g a = record { start = Some a.top.now.key.value }
