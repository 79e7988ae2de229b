-- What a worker's pump does to its pass, and to the states of its uploads.
use Rattle.std.specs.Prelude.{◌≡◌, ◌≢◌, ℕ, ◌+◌, ◌<◌, ◌≤◌, ◌==◌, not, Bool, true, false, List, [], ◌∷◌, ◌++◌, length, take, slice_get, slice_index_or, Some, Result, Ok, Err, OnOk, All, Contains}
use Rattle.std.specs.List.{take_while}
use mathlib.Core.List.{IsPrefix}
use Rattle.lg_model.specs.declared.column.Key.{Key}
use Rattle.lg_model.specs.declared.scenario.Letter.{Letter}
use Rattle.lg_model.specs.declared.scenario.Letter.TheVariants.{LoseReply}
use Rattle.lg_model.specs.Placing.{Shape}
use Rattle.lg_model.specs.Columns.{Cells, Column}
use Rattle.sketchlet_wire.specs.Uploads.{UploadData, upload_of, holds_key}
use Rattle.uploader_core.specs.declared.state.SeqState.{SeqState}
use Rattle.uploader_core.specs.States.{is_acknowledged, state_at}
use Rattle.link_deliveries.specs.Waiting.{all_acknowledged, refusals}
use Rattle.column_book.specs.declared.entry.Entry.{Entry}
use Rattle.column_book.specs.declared.fault.BookFault.TheVariants as book
use Rattle.column_book.specs.Entries.{records, columns_of}
use Rattle.column_book.specs.Applying.{decide, stored_entry}
use Rattle.lock_rule.specs.declared.view.Mark.TheVariants.{Carries}
use Rattle.lock_rule.specs.declared.view.View.{View}
use Rattle.lock_rule.specs.Views.{Marked}
use Rattle.book_journal.specs.declared.applied.ApplyFault.{ApplyFault}
use Rattle.book_journal.specs.declared.applied.ApplyFault.TheVariants as faults
use Rattle.shared_book.specs.Passes.{HasNewBy}
use Rattle.upload_world.specs.declared.fault.WorkFault.{WorkFault}
use Rattle.upload_world.specs.declared.fault.WorkFault.TheVariants.{Refused, Memory}

-- ---- uploads and lists

-- The upload of no columns, for a number that no upload has.
abbrev pub no_upload : UploadData
no_upload = upload_of 0 0 []

abbrev pub upload_at : List UploadData → (q : ℕ) → UploadData
upload_at ups q = slice_index_or ups q no_upload

-- One of the columns has that key and these counters.
pub record Has (cs : List Column) (k : Key) (v : Cells) : Type 0 where
  pub column : Column
  pub inside : Contains cs column
  pub key : column.key ≡ k
  pub cells : column.cells ≡ v

-- Each column of the upload stands in the list, with its counters.
abbrev pub StandsIn : UploadData → List Entry → Type 0
StandsIn u es = All (λ (c : Column). Has (columns_of es) c.key c.cells) u.columns

-- Whether the upload of that number is acknowledged.
abbrev pub acked_at : List SeqState → (q : ℕ) → Bool
acked_at ss q = is_acknowledged (state_at ss q)

-- No column of the entry has the key of one of the upload.
abbrev pub IsApart : Entry → UploadData → Type 0
IsApart e u = All (λ (c : Column). holds_key c.key u.columns ≡ false) e.stored.columns

-- The numbers before the first q.
abbrev pub before_first : (q : ℕ) → List ℕ → List ℕ
before_first q ns = take_while (λ n. not (n == q)) ns

module _ (shape : Shape) (room : ℕ) (ups : List UploadData) where
  -- Each acknowledged upload stands in the list.
  abbrev pub AckedStand : List SeqState → List Entry → Type 0
  AckedStand ss es = (q : ℕ) → q < length ups → acked_at ss q ≡ true → StandsIn (upload_at ups q) es

  -- The entry that an application of its own upload stores after these entries.
  pub record IsOwn (pass : ℕ) (before : List Entry) (e : Entry) : Type 0 where
    pub sent : e.stored.seq < length ups
    pub is : e ≡ stored_entry pass before (upload_at ups e.stored.seq)
    pub right : HasNewBy shape room pass (upload_at ups e.stored.seq) before

  -- So is each entry of the pass from position n on.
  abbrev pub OwnFrom : (pass n : ℕ) → List Entry → Type 0
  OwnFrom pass n es = (i : ℕ) (e : Entry) → n ≤ i → slice_get es i ≡ Some e → e.pass ≡ pass → IsOwn pass (take i es) e

  -- An entry that the mark carries is one that an application stores after the list that was seen.
  abbrev pub CarriesOwn : View → Type 0
  CarriesOwn v = (e : Entry) → v.mark ≡ Carries e → IsOwn v.number v.seen e

  -- An entry of a call: it has no column of an upload that the deliveries have before the first of its own.
  pub record IsOfCall (ds : List ℕ) (pass : ℕ) (before : List Entry) (e : Entry) : Type 0 where
    pub own : IsOwn pass before e
    pub first : All (λ (q : ℕ). IsApart e (upload_at ups q)) (before_first e.stored.seq ds)

  -- ---- why it stops

  -- Why the book refused the upload of number q, as the pass shows it.
  abbrev pub IsCause : (q : ℕ) → (v w : View) → ApplyFault → Type 0
  IsCause q v w (faults.WrongShape kept came) =
      decide shape room (records w.seen) (upload_at ups q) ≡ Err (book.WrongShape kept came)
  IsCause q v w (faults.Conflict key kept came) =
      decide shape room (records w.seen) (upload_at ups q) ≡ Err (book.Conflict key kept came)
  IsCause q v w (faults.Full held more) =
      decide shape room (records w.seen) (upload_at ups q) ≡ Err (book.Full held more)
  IsCause q v w faults.DiskFault =
      (Marked v.mark → ⊥) × (w.mark ≡ Carries (stored_entry v.number w.seen (upload_at ups q)))
  IsCause q v w (faults.Broken records) = Marked w.mark × (records ≡ length w.seen)
  IsCause q v w faults.Memory = ⊥

  -- The first delivery that the book refused: all earlier ones stand in the list, and this one was the last call.
  pub record IsFirstRefused (ds : List ℕ) (v w : View) (q : ℕ) (fault : ApplyFault) : Type 0 where
    pub earlier : List ℕ
    pub later : List ℕ
    pub place : ds ≡ earlier ++ q ∷ later
    pub stand : All (λ (n : ℕ). StandsIn (upload_at ups n) w.seen) earlier
    pub calls : w.begun ≡ v.begun + length earlier + 1
    pub cause : IsCause q v w fault

  -- Memory ran out: the first deliveries stand in the list, at most one more call was made, the mark is as it was, and
  -- no upload is refused.
  pub record IsStarved (ds : List ℕ) (v w : View) (ts : List SeqState) : Type 0 where
    pub earlier : List ℕ
    pub later : List ℕ
    pub place : ds ≡ earlier ++ later
    pub stand : All (λ (n : ℕ). StandsIn (upload_at ups n) w.seen) earlier
    pub calls : w.begun ≤ v.begun + length earlier + 1
    pub mark : w.mark ≡ v.mark
    pub none : refusals ts ≡ 0

  abbrev pub Stops : {A : Type 0} → List ℕ → (v w : View) → List SeqState → Result A WorkFault → Type 0
  Stops ds v w ts (Ok a) = Unit {0}
  Stops ds v w ts (Err (Refused q fault)) = IsFirstRefused ds v w q fault
  Stops ds v w ts (Err Memory) = IsStarved ds v w ts

  -- ---- the whole

  -- What a pump does over a link with these letters, by the numbers of the uploads that the link delivers: to the pass,
  -- from v to w, and to the states of its uploads, from ss to ts.
  pub record Pumps {A : Type 0} (ds : List ℕ) (letters : List Letter) (v w : View) (ss ts : List SeqState)
      (result : Result A WorkFault) : Type 0 where
    -- at Ok all are acknowledged, by exactly these deliveries, and the mark is as it was
    pub done : OnOk result ((all_acknowledged ts ≡ true) × (w.begun ≡ v.begun + length ds) × (w.mark ≡ v.mark))
    pub stops : Stops ds v w ts result
    -- at every end it has made at most these calls
    pub calls : w.begun ≤ v.begun + length ds
    -- the list that was seen grows, and all else of the pass stays
    pub same : w ≡ record v { seen = w.seen; begun = w.begun; mark = w.mark }
    pub grows : IsPrefix v.seen w.seen
    -- what held of the pass still holds
    pub acked : AckedStand ss v.seen → AckedStand ts w.seen
    pub own : (n : ℕ) → OwnFrom v.number n v.seen → OwnFrom v.number n w.seen
    pub carries : CarriesOwn v → CarriesOwn w
    -- what this call added, and what a mark carries that it set
    pub added : (i : ℕ) (e : Entry) → length v.seen ≤ i → slice_get w.seen i ≡ Some e → e.pass ≡ v.number
        → IsOfCall ds v.number (take i w.seen) e
    pub set : (Marked v.mark → ⊥) → (e : Entry) → w.mark ≡ Carries e → IsOfCall ds v.number w.seen e
    pub marked : Marked v.mark → (w.mark ≡ v.mark) × (w.seen ≡ v.seen)
    -- where no letter drops a reply, what was added is acknowledged
    pub answered : All (λ l. l ≢ LoseReply) letters → (i : ℕ) (e : Entry)
        → length v.seen ≤ i → slice_get w.seen i ≡ Some e → e.pass ≡ v.number → acked_at ts e.stored.seq ≡ true
