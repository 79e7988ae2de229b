-- A shared book and its passes, as clauses see them.
use Rattle.std.specs.Prelude.{◌≡◌, ℕ, ◌+◌, ◌≤◌, true, List, [], ◌∷◌, ◌++◌, length, take, Result, Ok, Err, All}
use mathlib.Core.List.{IsPrefix}
use Rattle.atomic_table.specs.Seated.{TableId}
use Rattle.lg_model.specs.Placing.{Shape}
use Rattle.sketchlet_wire.specs.Uploads.{UploadData}
use Rattle.column_book.specs.declared.entry.Entry.{Entry}
use Rattle.column_book.specs.declared.fault.BookFault.TheVariants as book
use Rattle.column_book.specs.Applying.{decide, stored_entry}
use Rattle.column_book.specs.Entries.{records}
use Rattle.book_journal.specs.declared.applied.Applied.{Applied}
use Rattle.book_journal.specs.declared.applied.Applied.TheVariants.{Stored, Known}
use Rattle.book_journal.specs.declared.applied.ApplyFault.{ApplyFault}
use Rattle.book_journal.specs.declared.applied.ApplyFault.TheVariants.{Broken, WrongShape, Conflict, Full, Memory, DiskFault}
use Rattle.book_journal.specs.Runs.{JournalState}
use Rattle.lock_rule.specs.declared.view.Doing.TheVariants.{Idle}
use Rattle.lock_rule.specs.declared.view.Mark.{Mark}
use Rattle.lock_rule.specs.declared.view.Mark.TheVariants.{Carries}
use Rattle.lock_rule.specs.declared.view.View.{View}
use Rattle.lock_rule.specs.Plays.{set_mark}
use Rattle.lock_rule.specs.Views.{most_calls, of, Marked, joined_of, longer, spent}

-- A shared book: which one it is, and the journal that was shared.
pub record SharedState (D : Type 0) : Type 0 where
  pub id : TableId
  pub first : JournalState D

-- A pass: the book that it is of, and what it knows.
pub record PassState : Type 0 where
  pub book : TableId
  pub view : View

abbrev pub head_view : List View → View
head_view [] = spent
head_view (v ∷ vs) = v

-- What holds of every pass: it is live and idle, and has its numbers at hand.
pub record IsPass (views : List View) (n m k rest : ℕ) : Type 0 where
  pub one : views ≡ head_view views ∷ []
  pub live : (head_view views).live ≡ true
  pub idle : (head_view views).doing ≡ Idle
  pub number : n ≡ (head_view views).number
  pub made : m ≡ (head_view views).made
  pub joined : k ≡ length (head_view views).joined
  pub left : rest + (head_view views).begun ≡ most_calls

-- By these entries an upload comes to some new columns.
pub record HasNewBy (shape : Shape) (room pass : ℕ) (u : UploadData) (es : List Entry) : Type 0 where
  pub decides : decide shape room (records es) u ≡ Ok (stored_entry pass es u).stored.columns
  pub some : 1 ≤ length (stored_entry pass es u).stored.columns

-- The answer to an upload of a pass is right for the entries behind the lock. Only where some columns are new is memory
-- or the disk wanted.
abbrev pub IsRight : Shape → (room pass : ℕ) → UploadData → List Entry → Result Applied ApplyFault → Type 0
IsRight shape room pass u es (Ok (Stored p)) = HasNewBy shape room pass u es × (p ≡ length es)
IsRight shape room pass u es (Ok Known) = decide shape room (records es) u ≡ Ok []
IsRight shape room pass u es (Err (Broken n)) = n ≡ length es
IsRight shape room pass u es (Err (WrongShape kept came)) = decide shape room (records es) u ≡ Err (book.WrongShape kept came)
IsRight shape room pass u es (Err (Conflict key kept came)) = decide shape room (records es) u ≡ Err (book.Conflict key kept came)
IsRight shape room pass u es (Err (Full held more)) = decide shape room (records es) u ≡ Err (book.Full held more)
IsRight shape room pass u es (Err Memory) = HasNewBy shape room pass u es
IsRight shape room pass u es (Err DiskFault) = HasNewBy shape room pass u es

-- The list after an answer: at `Stored` it ends with the pass's own entry.
abbrev pub seen_after : (pass : ℕ) → UploadData → List Entry → Result Applied ApplyFault → List Entry
seen_after pass u es (Ok (Stored p)) = es ++ stored_entry pass es u ∷ []
seen_after pass u es (Ok Known) = es
seen_after pass u es (Err fault) = es

-- The mark after an answer: at `DiskFault` it carries the entry that was being stored, at `Broken` it is set, and a mark
-- that is set stays as it is.
abbrev pub mark_for : (pass : ℕ) → UploadData → List Entry → Mark → Result Applied ApplyFault → Mark
mark_for pass u es m (Ok applied) = m
mark_for pass u es m (Err (Broken n)) = set_mark m
mark_for pass u es m (Err (WrongShape kept came)) = m
mark_for pass u es m (Err (Conflict key kept came)) = m
mark_for pass u es m (Err (Full held more)) = m
mark_for pass u es m (Err Memory) = m
mark_for pass u es m (Err DiskFault) = Carries (stored_entry pass es u)

-- An apply of a pass. The list behind the lock begins with what the pass had seen, and what came since is of other
-- numbers. The pass has then seen that list, with its own entry at `Stored`; one more call is begun; all else of it
-- stays. The answer is right for that list. A marked pass had seen all of it, and is answered `Broken`.
pub record Serves (shape : Shape) (room : ℕ) (u : UploadData) (v w : View) (answer : Result Applied ApplyFault) : Type 0 where
  pub list : List Entry
  pub begins : IsPrefix v.seen list
  pub mine : of v.number list ≡ of v.number v.seen
  pub after : w ≡ record v { seen = seen_after v.number u list answer; begun = v.begun + 1; mark = mark_for v.number u list v.mark answer }
  pub right : IsRight shape room v.number u list answer
  pub marked : Marked v.mark → (list ≡ v.seen) × (answer ≡ Err (Broken (length v.seen)))

-- Uploads that are applied one after the other until one is refused, and the answers in their order.
abbrev pub ServesEach : Shape → (room : ℕ) → List UploadData → (v w : View) → List (Result Applied ApplyFault) → Type 0
ServesEach shape room [] v w [] = w ≡ v
ServesEach shape room [] v w (a ∷ bs) = ⊥
ServesEach shape room (u ∷ us) v w [] = ⊥
ServesEach shape room (u ∷ us) v w (Ok a ∷ bs) =
    (between : View) × Serves shape room u v between (Ok a) × ServesEach shape room us between w bs
ServesEach shape room (u ∷ us) v w (Err fault ∷ bs) = Serves shape room u v w (Err fault) × (bs ≡ [])

-- A turn of a pass: it finds a list behind the lock, and what it has seen after it is that list with entries of its own
-- alone.
pub record Together (v w : View) : Type 0 where
  pub list : List Entry
  pub begins : IsPrefix v.seen list
  pub mine : of v.number list ≡ of v.number v.seen
  pub more : List Entry
  pub after : w.seen ≡ list ++ more
  pub own : All (λ (e : Entry). e.pass ≡ v.number) more

-- A pass is joined into the first one: it goes on that one's list, with its number, what it had seen, and its mark. The
-- first one has then seen the longer of the two lists, which begins with both; it gains no entry of its own number.
pub record Joins (v other w : View) : Type 0 where
  pub after : w ≡ record v { joined = joined_of other ∷ v.joined; seen = longer v.seen other.seen }
  pub mine : IsPrefix v.seen w.seen
  pub theirs : IsPrefix other.seen w.seen
  pub own : of v.number w.seen ≡ of v.number v.seen

-- What a call keeps of a pass: its number, and how many passes were made and which were joined. What it had seen begins
-- what it has seen, and it began one call more or none.
pub record Keeps (v w : View) : Type 0 where
  pub number : w.number ≡ v.number
  pub made : w.made ≡ v.made
  pub joined : w.joined ≡ v.joined
  pub seen : IsPrefix v.seen w.seen
  pub begun : w.begun ≤ v.begun + 1

-- ---- the same, by what the pass has seen after it

-- At `Stored(p)` the seen list has length p + 1, and its last entry is the one that the upload becomes on the first p. At
-- every other answer the decision is the one on the seen list. `DiskFault` and `Broken` leave a mark, `DiskFault` with the
-- entry that the upload would become.
abbrev pub IsTold : Shape → (room : ℕ) → UploadData → (w : View) → Result Applied ApplyFault → Type 0
IsTold shape room u w (Ok (Stored p)) = (length w.seen ≡ p + 1) × (w.seen ≡ take p w.seen ++ stored_entry w.number (take p w.seen) u ∷ [])
IsTold shape room u w (Ok Known) = decide shape room (records w.seen) u ≡ Ok []
IsTold shape room u w (Err (Broken n)) = Marked w.mark × (n ≡ length w.seen)
IsTold shape room u w (Err (WrongShape kept came)) = decide shape room (records w.seen) u ≡ Err (book.WrongShape kept came)
IsTold shape room u w (Err (Conflict key kept came)) = decide shape room (records w.seen) u ≡ Err (book.Conflict key kept came)
IsTold shape room u w (Err (Full held more)) = decide shape room (records w.seen) u ≡ Err (book.Full held more)
IsTold shape room u w (Err Memory) = HasNewBy shape room w.number u w.seen
IsTold shape room u w (Err DiskFault) = HasNewBy shape room w.number u w.seen × (w.mark ≡ Carries (stored_entry w.number w.seen u))

abbrev pub LawOfApplies : Type 0
LawOfApplies = (shape : Shape) (room : ℕ) (u : UploadData) (v w : View) (answer : Result Applied ApplyFault) → Serves shape room u v w answer
    → IsTold shape room u w answer
