-- A walk that is given the file in pieces.
use Rattle.std.specs.Prelude.{◌≡◌, ℕ, ◌+◌, ◌<◌, ◌≤◌, Bool, true, false, List, [], ◌∷◌, ◌++◌, length, slice_index, Option, Result, Err}
use Rattle.lg_model.specs.declared.limits.TheConstants.{MOST_UPLOAD_COLUMNS}
use Rattle.lg_model.specs.Placing.{Shape}
use Rattle.lg_model.specs.Columns.{dims_of}
use Rattle.sketchlet_wire.specs.ShapeFields.{FitsShape}
use Rattle.column_book.specs.declared.book.TheConstants.{ROOM}
use Rattle.column_book.specs.Entries.{BookState, records}
use Rattle.book_file.specs.declared.found.OpenFault.{OpenFault}
use Rattle.book_file.specs.declared.found.OpenFault.TheVariants.{Memory}
use Rattle.book_file.specs.declared.found.Found.{Found}
use Rattle.book_file.specs.declared.stage.Stage.{Stage}
use Rattle.book_file.specs.declared.stage.Stage.TheVariants.{Head, Gate, Lead, Body, Ended}
use Rattle.book_file.specs.File.{body_len, front, AreRecords}
use Rattle.book_file.specs.Found.{Suits, book_of, count_of, Finds}

-- A walk: what is asked for, the room, the length of the file, how many bytes were fed, those of them that are kept
-- unread, the offset of the last gate that it came to, and what it waits for.
pub record WalkState : Type 0 where
  pub asked : Option Shape
  pub room : ℕ
  pub len : ℕ
  pub fed : ℕ
  pub rest : List ℕ
  pub gate : ℕ
  pub stage : Stage

-- The most bytes that are kept: the longest body.
abbrev pub MOST_KEPT : ℕ
MOST_KEPT = 903

-- A book in the making, whose next gate stands at that offset.
pub record IsGoing (asked : Option Shape) (room gate : ℕ) (b : BookState) : Type 0 where
  pub suits : Suits asked b.shape
  pub book : b ≡ book_of b.shape room (records b.entries)
  pub shape_fits : FitsShape b.shape
  pub records_fit : AreRecords (dims_of b.shape) (records b.entries)
  pub few : count_of (records b.entries) ≤ room
  pub place : gate ≡ length (front b.shape (records b.entries))

-- Every file of this length that begins so has this answer.
abbrev pub Decides : Option Shape → (room len : ℕ) → List ℕ → Result Found OpenFault → Type 0
Decides asked room len read answer = (more : List ℕ) → length (read ++ more) ≡ len → Finds asked room (read ++ more) answer

-- The first 7 bytes of a body are there, and its count of columns is 1 to 16.
pub record HasCount (rest : List ℕ) : Type 0 where
  pub there : 7 ≤ length rest
  pub some : 1 ≤ slice_index rest 6
  pub few : slice_index rest 6 ≤ MOST_UPLOAD_COLUMNS

-- A walk that read these bytes waits for this, and keeps the last of them.
abbrev pub Waits : Option Shape → (room len gate : ℕ) → Stage → (rest read : List ℕ) → Type 0
Waits asked room len gate Head rest read = read ≡ rest
Waits asked room len gate (Gate b) rest read = IsGoing asked room gate b × (read ≡ front b.shape (records b.entries) ++ rest)
Waits asked room len gate (Lead b) rest read = IsGoing asked room gate b × (read ≡ front b.shape (records b.entries) ++ 1 ∷ rest)
Waits asked room len gate (Body b) rest read =
    IsGoing asked room gate b × (read ≡ front b.shape (records b.entries) ++ 1 ∷ rest) × HasCount rest
Waits asked room len gate (Ended answer) rest read = Decides asked room len read answer

-- How many bytes the next step needs, the kept ones included.
abbrev pub needed : Stage → List ℕ → ℕ
needed Head rest = 17
needed (Gate b) rest = 1
needed (Lead b) rest = 7
needed (Body b) rest = body_len b.shape.rows (slice_index rest 6)
needed (Ended answer) rest = length rest

abbrev pub is_ended : Stage → Bool
is_ended Head = false
is_ended (Gate b) = false
is_ended (Lead b) = false
is_ended (Body b) = false
is_ended (Ended answer) = true

-- So a walk stands between two pieces: where no answer is known, something is lacking.
pub record Stands (asked : Option Shape) (room len gate : ℕ) (stage : Stage) (rest read : List ℕ) : Type 0 where
  pub waits : Waits asked room len gate stage rest read
  pub lacks : is_ended stage ≡ false → length rest < needed stage rest
  pub few : length rest ≤ MOST_KEPT

-- What is kept after a step: the first 7 bytes of a body.
abbrev pub kept_after : Stage → List ℕ → List ℕ
kept_after Head rest = []
kept_after (Gate b) rest = []
kept_after (Lead b) rest = []
kept_after (Body b) rest = rest
kept_after (Ended answer) rest = []

-- The gate after a step, where that many bytes were read.
abbrev pub gate_after : Stage → (gate fed : ℕ) → ℕ
gate_after Head gate fed = gate
gate_after (Gate b) gate fed = fed
gate_after (Lead b) gate fed = gate
gate_after (Body b) gate fed = gate
gate_after (Ended answer) gate fed = gate

-- So it stands after a step that came to this stage, from a gate and bytes that were kept.
abbrev pub Steps : Option Shape → (room len gate : ℕ) → Stage → (rest read : List ℕ) → Type 0
Steps asked room len gate result rest read =
    Stands asked room len (gate_after result gate (length read)) result (kept_after result rest) read

-- The walk was given up, since no memory was found.
abbrev pub given_up : Stage
given_up = Ended (Err Memory)

-- The walk may have been fed these bytes.
pub record HasRead (w : WalkState) (read : List ℕ) : Type 0 where
  pub stands : Stands w.asked w.room w.len w.gate w.stage w.rest read
  pub fed : length read ≡ w.fed
  pub inside : w.fed ≤ w.len

-- What every walk is: it was fed some bytes.
pub record IsWalk (w : WalkState) : Type 0 where
  pub some_room : 1 ≤ w.room
  pub small_room : w.room ≤ ROOM
  pub read : (read : List ℕ) × HasRead w read

-- From one state to the other, a walk was fed these bytes. Once it has ended, it stays so.
pub record Fed (old new : WalkState) (bytes : List ℕ) : Type 0 where
  pub asked : new.asked ≡ old.asked
  pub room : new.room ≡ old.room
  pub len : new.len ≡ old.len
  pub fed : new.fed ≡ old.fed + length bytes
  pub read : (read : List ℕ) → HasRead old read → HasRead new (read ++ bytes)
  pub ended : is_ended old.stage ≡ true → new.stage ≡ old.stage

-- A walk at its beginning.
abbrev pub walk_of : Option Shape → (room len : ℕ) → WalkState
walk_of asked room len = record { asked = asked; room = room; len = len; fed = 0; rest = []; gate = 0; stage = Head }
