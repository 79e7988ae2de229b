use Rattle.book_file.proofs.Law.{law, blank_law, lengths}
use Rattle.book_file.proofs.laws.files_are_apart.Goals as goal

pub returns-clause-one : goal.returns-clause-one
returns-clause-one c = law

pub returns-clause-blank : goal.returns-clause-blank
returns-clause-blank c = blank_law

pub returns-clause-short : goal.returns-clause-short
returns-clause-short c = lengths
