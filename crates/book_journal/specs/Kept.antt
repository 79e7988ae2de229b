-- What a journal keeps, and the state that it stands for.
use Rattle.std.specs.Prelude.{List, Option}
use Rattle.std.specs.Option.{option_map}
use Rattle.column_book.specs.declared.entry.Entry.{Entry}
use Rattle.column_book.specs.Applying.{stored_entry}
use Rattle.column_book.specs.Entries.{BookState}
use Rattle.book_journal.specs.declared.attempt.Attempt.{Attempt}
use Rattle.book_journal.specs.Runs.{JournalState}

-- The entry of an attempt that met a fault of the disk: the book is as it was then.
abbrev pub entry_of : List Entry → Attempt → Entry
entry_of es a = stored_entry a.pass es a.upload.value

abbrev pub state_of : {D : Type 0} → D → BookState → Option Attempt → JournalState D
state_of disk b fault = record {
  shape = b.shape;
  room = b.room;
  entries = b.entries;
  fault = option_map (entry_of b.entries) fault;
  disk = disk;
}
