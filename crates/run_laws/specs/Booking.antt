-- What booking the uploads of a run comes to.
use Rattle.std.specs.Prelude.{◌≡◌, ℕ, ◌<◌, ◌≤◌, List, [], length, fold, Result, Ok, Err}
use Rattle.std.specs.List.{flat_map, enumerate_from}
use Rattle.lg_model.specs.declared.scenario.HostLine.{HostLine}
use Rattle.lg_model.specs.Placing.{Shape}
use Rattle.lg_model.specs.Scenario.{Scenario}
use Rattle.lg_model.specs.Carrying.{picked}
use Rattle.lg_model.specs.Arriving.{brought}
use Rattle.lg_model.specs.Columns.{Column}
use Rattle.sketchlet_wire.specs.Uploads.{UploadData}
use Rattle.host_collect.specs.Cutting.{cut, numbered}
use Rattle.column_book.specs.declared.book.TheConstants.{ROOM}
use Rattle.column_book.specs.declared.entry.Entry.{Entry}
use Rattle.column_book.specs.declared.fault.BookFault.{BookFault}
use Rattle.column_book.specs.declared.fault.BookFault.TheVariants.{WrongShape, Conflict, Full}
use Rattle.column_book.specs.Entries.{records, content}
use Rattle.column_book.specs.Applying.{decide, with_new}
use Rattle.scenario_parts.specs.Whole.{IsWhole}
use Rattle.run_laws.specs.Truth.{book_of}

-- The uploads of a host, given with its position: what came to it, cut and numbered.
abbrev pub host_uploads : Scenario → ℕ × HostLine → List UploadData
host_uploads w (h, host) = numbered host.name (cut (brought w (picked w) h))

-- Those of all hosts, host after host in the order of declaration.
abbrev pub uploads_of : Scenario → List UploadData
uploads_of w = flat_map (host_uploads w) (enumerate_from 0 w.hosts)

-- The entries after an upload, by what it comes to.
abbrev pub booked_by : List Entry → (pass : ℕ) → UploadData → Result (List Column) BookFault
    → Result (List Entry) BookFault
booked_by es pass u (Err f) = Err f
booked_by es pass u (Ok new) = Ok (with_new es pass u new)

-- One upload more is booked, unless a fault has ended it.
abbrev pub with_upload : Shape → (room pass : ℕ) → Result (List Entry) BookFault → UploadData
    → Result (List Entry) BookFault
with_upload shape room pass (Err f) u = Err f
with_upload shape room pass (Ok es) u = booked_by es pass u (decide shape room (records es) u)

-- The booking of a run in an empty book with that room, as pass 0: the entries after all uploads, or the first fault.
abbrev pub booked_in : (room : ℕ) → Scenario → Result (List Entry) BookFault
booked_in room w = fold (with_upload w.shape room 0) (Ok []) (uploads_of w)

-- The booking of a run in a book with as much room as a book may have.
unfoldable pub booked : Scenario → Result (List Entry) BookFault
booked w = booked_in ROOM w

-- What follows: the one fault is that of too little room; where there is none, the content of the entries is the book of
-- the run.
abbrev pub IsBooking : Scenario → (room : ℕ) → Result (List Entry) BookFault → Type 0
IsBooking w room (Err (WrongShape kept came)) = ⊥
IsBooking w room (Err (Conflict key kept came)) = ⊥
IsBooking w room (Err (Full held more)) = room < length (book_of w)
IsBooking w room (Ok es) = (content es ≡ book_of w) × (length (book_of w) ≤ room)

-- The law of bookings: so it is for every scenario and room.
abbrev pub LawOfBookings : Type 0
LawOfBookings = (w : Scenario) (room : ℕ) → IsWhole w → IsBooking w room (booked_in room w)
