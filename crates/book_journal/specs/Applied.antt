-- What a journal answers where its book does not take an upload.
use Rattle.column_book.specs.declared.fault.BookFault.{BookFault}
use Rattle.column_book.specs.declared.fault.BookFault.TheVariants as book
use Rattle.book_journal.specs.declared.applied.ApplyFault.{ApplyFault}
use Rattle.book_journal.specs.declared.applied.ApplyFault.TheVariants as apply

-- The book's fault, told by the journal.
abbrev pub fault_of : BookFault → ApplyFault
fault_of (book.WrongShape kept came) = apply.WrongShape kept came
fault_of (book.Conflict key kept came) = apply.Conflict key kept came
fault_of (book.Full held more) = apply.Full held more
