-- What a list of deliveries does to a pass, as clauses within the pump say it.
use Rattle.std.specs.Prelude.{◌≡◌, ◌⊎◌, ℕ, ◌+◌, ◌<◌, ◌≤◌, Bool, true, false, List, [], ◌∷◌, ◌++◌, map, length, drop, Option, None, Some, Result, Ok, Err, All}
use Rattle.sketchlet_wire.specs.Uploads.{UploadData, IsFull}
use Rattle.uploader_core.specs.declared.state.SeqState.{SeqState}
use Rattle.lg_model.specs.declared.limits.TheConstants.{MOST_OUTSTANDING}
use Rattle.lg_model.specs.declared.scenario.Letter.{Letter}
use Rattle.lg_model.specs.declared.scenario.Letter.TheVariants.{Deliver, Lose, LoseReply, Twice, Hold}
use Rattle.uploader_core.specs.States.{is_acknowledged, is_idle, outstanding, state_at, sent}
use Rattle.link_deliveries.specs.Waiting.{refusals, IsNext}
use Rattle.link_deliveries.specs.Deliveries.{Delivery, delivery, brings, send, acknowledge, held_after, EndsRound}
use Rattle.column_book.specs.declared.entry.Entry.{Entry}
use Rattle.book_journal.specs.declared.applied.Applied.{Applied}
use Rattle.book_journal.specs.declared.applied.ApplyFault.{ApplyFault}
use Rattle.book_journal.specs.declared.applied.ApplyFault.TheVariants as faults
use Rattle.upload_frame.specs.declared.reply.Reply.{Reply}
use Rattle.lg_model.specs.Placing.{Shape}
use Rattle.column_book.specs.Applying.{stored_entry}
use Rattle.shared_book.specs.Passes.{HasNewBy, Serves}
use Rattle.upload_world.specs.Pumps.{StandsIn, upload_at}
use Rattle.upload_frame.specs.Frames.{frame_of}
use Rattle.shared_book.specs.Replying.{reply_for}
use Rattle.uploader_core.specs.Uploader.{UploaderState, states_after}
use Rattle.lock_rule.specs.declared.view.View.{View}
use Rattle.lock_rule.specs.Views.{Marked}
use Rattle.upload_world.specs.declared.deliver.Sent.{Sent}
use Rattle.upload_world.specs.declared.deliver.Coming.{Coming}
use Rattle.upload_world.specs.declared.deliver.Due.{Due}
use Rattle.lg_base.specs.declared.faults.Memory.{Memory as Starved}
use Rattle.upload_world.specs.declared.fault.WorkFault.{WorkFault}
use Rattle.upload_world.specs.declared.fault.WorkFault.TheVariants.{Refused, Memory}

-- P of each element of the second list, with what stands before it.
abbrev pub Along : {A : Type 0} → (List A → A → Type 0) → List A → List A → Type 0
Along P before [] = Unit {0}
Along P before (x ∷ xs) = P before x × Along P (before ++ x ∷ []) xs

-- Which uploads are acknowledged.
abbrev pub acks : List SeqState → List Bool
acks ss = map is_acknowledged ss

-- A frame of one of these uploads of that host.
pub record IsSent (host : ℕ) (ups : List UploadData) (s : Sent) : Type 0 where
  pub short : s.seq < length ups
  pub named : ((upload_at ups s.seq).host ≡ host) × ((upload_at ups s.seq).seq ≡ s.seq)
  pub full : IsFull (upload_at ups s.seq)
  pub frame : s.frame.items ≡ frame_of (upload_at ups s.seq)

-- The frame of some upload.
pub record IsFrame (s : Sent) : Type 0 where
  pub upload : UploadData
  pub full : IsFull upload
  pub frame : s.frame.items ≡ frame_of upload

-- The deliveries that are due, in order.
abbrev pub dues : Due → List Delivery
dues due = map (λ (c : Coming). delivery c.seq c.heard) due.order.items

-- Each is of one of these uploads of that host, and the uploads beside them are those.
pub record IsDue (host : ℕ) (ups : List UploadData) (due : Due) : Type 0 where
  pub uploads : due.uploads.items ≡ map (λ (d : Delivery). upload_at ups d.seq) (dues due)
  pub short : All (λ (d : Delivery). d.seq < length ups) (dues due)
  pub named : All (λ (d : Delivery). ((upload_at ups d.seq).host ≡ host) × ((upload_at ups d.seq).seq ≡ d.seq)) (dues due)

-- Nothing is due.
pub record IsNothing (due : Due) : Type 0 where
  pub uploads : due.uploads.items ≡ []
  pub order : due.order.items ≡ []

-- What came of these frames is due as well.
abbrev pub MakesDue : List Sent → Due → Due → Type 0
MakesDue frames old new = (host : ℕ) (ups : List UploadData) → All (IsSent host ups) frames → IsDue host ups old → IsDue host ups new

-- An uploader none of whose uploads was refused.
pub record IsSteady (u : UploaderState) : Type 0 where
  pub each : length u.states ≡ length u.uploads
  pub none : refusals u.states ≡ 0

-- What an uploader is but for its states.
pub record IsSame (old new : UploaderState) : Type 0 where
  pub host : new.host ≡ old.host
  pub uploads : new.uploads ≡ old.uploads

abbrev pub seqs : List Sent → List ℕ
seqs ss = map (λ (s : Sent). s.seq) ss

-- Of what was held, what is held after a letter lets go.
abbrev pub still_held : Letter → List Sent → List Sent
still_held Deliver held = []
still_held Lose held = held
still_held LoseReply held = []
still_held Twice held = []
still_held Hold held = held

abbrev pub held_with : Letter → Sent → List Sent → List Sent
held_with Deliver s held = held
held_with Lose s held = held
held_with LoseReply s held = held
held_with Twice s held = held
held_with Hold s held = held ++ s ∷ []

-- The states after an answer whose reply, where there is one, is handed on.
abbrev pub after_reply : (host : ℕ) → List SeqState → Option Reply → List SeqState
after_reply host ss None = ss
after_reply host ss (Some r) = states_after host ss r

abbrev pub answered : (host : ℕ) → List SeqState → UploadData → Result Applied ApplyFault → List SeqState
answered host ss u answer = after_reply host ss (reply_for u answer)

-- What a worker makes of an answer.
abbrev pub outcome_of : ℕ → Result Applied ApplyFault → Result (Unit {0}) WorkFault
outcome_of seq (Ok a) = Ok tt
outcome_of seq (Err (faults.Broken r)) = Err (Refused seq (faults.Broken r))
outcome_of seq (Err (faults.WrongShape kept came)) = Err (Refused seq (faults.WrongShape kept came))
outcome_of seq (Err (faults.Conflict key kept came)) = Err (Refused seq (faults.Conflict key kept came))
outcome_of seq (Err (faults.Full held more)) = Err (Refused seq (faults.Full held more))
outcome_of seq (Err faults.Memory) = Err Memory
outcome_of seq (Err faults.DiskFault) = Err (Refused seq faults.DiskFault)

abbrev pub IsRefusing : ApplyFault → Type 0
IsRefusing (faults.Broken r) = Unit {0}
IsRefusing (faults.WrongShape kept came) = Unit {0}
IsRefusing (faults.Conflict key kept came) = Unit {0}
IsRefusing (faults.Full held more) = Unit {0}
IsRefusing faults.Memory = ⊥
IsRefusing faults.DiskFault = Unit {0}

abbrev pub WantsMemory : WorkFault → Type 0
WantsMemory (Refused seq fault) = ⊥
WantsMemory Memory = Unit {0}

module _ (shape : Shape) (room : ℕ) (ups : List UploadData) where
  -- An entry that one of the deliveries stored on the entries before it, on which the uploads of all earlier ones stood.
  pub record IsMine (ds : List Delivery) (pass : ℕ) (before : List Entry) (e : Entry) : Type 0 where
    pub earlier : List Delivery
    pub own : Delivery
    pub later : List Delivery
    pub place : ds ≡ earlier ++ own ∷ later
    pub short : own.seq < length ups
    pub seq : (upload_at ups own.seq).seq ≡ own.seq
    pub is : e ≡ stored_entry pass before (upload_at ups own.seq)
    pub right : HasNewBy shape room pass (upload_at ups own.seq) before
    pub known : All (λ (d : Delivery). StandsIn (upload_at ups d.seq) before) earlier

  -- Deliveries that were all answered by an acknowledgement, from the view v of the pass to the view w.
  pub record Ran (ds : List Delivery) (v w : View) : Type 0 where
    pub more : List Entry
    pub view : w ≡ record v { seen = v.seen ++ more; begun = v.begun + length ds }
    pub short : All (λ (d : Delivery). d.seq < length ups) ds
    pub kept : All (λ (d : Delivery). StandsIn (upload_at ups d.seq) (v.seen ++ more)) ds
    pub mine : Along (λ before e. e.pass ≡ v.number → IsMine ds v.number before e) v.seen more
    pub still : Marked v.mark → (ds ≡ []) × (more ≡ [])

  -- The first of the deliveries was applied, with that answer.
  pub record IsCalled (ds : List Delivery) (v w : View) (answer : Result Applied ApplyFault) : Type 0 where
    pub first : Delivery
    pub later : List Delivery
    pub place : ds ≡ first ∷ later
    pub short : first.seq < length ups
    pub seq : (upload_at ups first.seq).seq ≡ first.seq
    pub serves : Serves shape room (upload_at ups first.seq) v w answer

  pub record IsRefusedAt (ds : List Delivery) (v w : View) (seq : ℕ) (fault : ApplyFault) : Type 0 where
    pub call : IsCalled ds v w (Err fault)
    pub seq_is : seq ≡ call.first.seq
    pub refusing : IsRefusing fault

  abbrev pub LastCall : List Delivery → View → View → WorkFault → Type 0
  LastCall ds v w (Refused seq fault) = IsRefusedAt ds v w seq fault
  LastCall ds v w Memory = (w ≡ v) ⊎ IsCalled ds v w (Err faults.Memory)

  -- Of the deliveries some were made, all answered by acknowledgements, and then one call or none that ended them.
  pub record Stopped (ds : List Delivery) (v w : View) (ss ts : List SeqState) (fault : WorkFault) : Type 0 where
    pub made : List Delivery
    pub left : List Delivery
    pub split : ds ≡ made ++ left
    pub between : View
    pub ran : Ran made v between
    pub last : LastCall left between w fault
    pub acked : acks ts ≡ acks (acknowledge ss made)
    pub none : WantsMemory fault → refusals ts ≡ 0

  pub record Went (ds : List Delivery) (v w : View) (ss ts : List SeqState) : Type 0 where
    pub ran : Ran ds v w
    pub acked : acks ts ≡ acks (acknowledge ss ds)

  abbrev pub Outcome : {A : Type 0} → List Delivery → View → View → List SeqState → List SeqState → Result A WorkFault → Type 0
  Outcome ds v w ss ts (Ok a) = Went ds v w ss ts
  Outcome ds v w ss ts (Err fault) = Stopped ds v w ss ts fault

-- The next upload was sent, with that letter, and what this brings is due.
pub record SentNext (host : ℕ) (ups : List UploadData) (letter : Letter) (ss ts : List SeqState) (held kept : List Sent) (old new : Due) : Type 0 where
  pub q : ℕ
  pub next : IsNext ss q
  pub states : ts ≡ sent ss q
  pub held_is : seqs kept ≡ held_after letter q (seqs held)
  pub each : All (IsSent host ups) kept
  pub brought : dues new ≡ dues old ++ brings (send q letter) (seqs held)
  pub due : IsDue host ups new

-- No upload is to be sent now.
pub record SentNone (ss ts : List SeqState) (held kept : List Sent) (old new : Due) : Type 0 where
  pub over : (MOST_OUTSTANDING ≤ outstanding ss) ⊎ ((k : ℕ) → k < length ss → is_idle (state_at ss k) ≡ false)
  pub states : ts ≡ ss
  pub held_is : kept ≡ held
  pub due_is : new ≡ old

abbrev pub SendsNext : ℕ → List UploadData → Letter → List SeqState → List SeqState → List Sent → List Sent → Due → Due → Result Bool Starved → Type 0
SendsNext host ups letter ss ts held kept old new (Ok true) = SentNext host ups letter ss ts held kept old new
SendsNext host ups letter ss ts held kept old new (Ok false) = SentNone ss ts held kept old new
SendsNext host ups letter ss ts held kept old new (Err fault) = acks ts ≡ acks ss

-- What a round does, and the place of the letter that is next.
abbrev pub RoundEnds : List Letter → ℕ → List SeqState → List SeqState → Result ℕ WorkFault → Type 0
RoundEnds letters from ss ts (Ok at) = EndsRound ss (drop from letters) ts (drop at letters)
RoundEnds letters from ss ts (Err fault) = Unit {0}
