-- A session over a source and a sink: what it hears, what it answers and what it writes.
use Rattle.std.specs.Prelude.{◌≡◌, ℕ, ◌≤◌, ◌⊎◌, List, ◌++◌, ◌∷◌, [], length, take, flat_map, Option, Result, Ok, Err}
use Rattle.std.specs.Io.KnownBytes.{Appends}
use Rattle.lg_model.specs.Placing.{Shape}
use Rattle.upload_frame.specs.declared.frame.Frame.{Frame}
use Rattle.upload_frame.specs.declared.reply.Reply.{Reply}
use Rattle.upload_frame.specs.Replies.{reply_bytes}
use Rattle.lock_rule.specs.declared.view.View.{View}
use Rattle.analyser_session.specs.declared.fault.SessionFault.{SessionFault}
use Rattle.analyser_session.specs.declared.fault.SessionFault.TheVariants as faults
use Rattle.analyser_session.specs.declared.served.Served.{Served}
use Rattle.analyser_session.specs.Answered.{AnswersAll, KeepsPass}
use Rattle.analyser_session.specs.Hearing.{Hears}
use Rattle.analyser_session.specs.Ties.{IsTied}

abbrev pub replies_bytes : List Reply → List ℕ
replies_bytes rs = flat_map reply_bytes rs

-- All replies but the last were written, and a front of the last.
pub record CutShort (old new : Option (List ℕ)) (rs : List Reply) : Type 0 where
  pub whole : List Reply
  pub last : Reply
  pub parts : rs ≡ whole ++ last ∷ []
  pub count : ℕ
  pub front : count ≤ length (reply_bytes last)
  pub written : Appends old new (replies_bytes whole ++ take count (reply_bytes last))

-- All replies but the last were written, and nothing of the last.
pub record LacksLast (old new : Option (List ℕ)) (rs : List Reply) : Type 0 where
  pub whole : List Reply
  pub last : Reply
  pub parts : rs ≡ whole ++ last ∷ []
  pub written : Appends old new (replies_bytes whole)

-- The replies were written, each before the next frame was answered: at a fault of the sink all but the end of the last
-- one, and where memory ran out all, or all but the last one.
abbrev pub Writes : Result Served SessionFault → (old new : Option (List ℕ)) → List Reply → Type 0
Writes (Ok s) old new rs = Appends old new (replies_bytes rs)
Writes (Err (faults.Frame at fault)) old new rs = Appends old new (replies_bytes rs)
Writes (Err (faults.Early at)) old new rs = Appends old new (replies_bytes rs)
Writes (Err faults.TooMany) old new rs = Appends old new (replies_bytes rs)
Writes (Err faults.ReadFault) old new rs = Appends old new (replies_bytes rs)
Writes (Err faults.WriteFault) old new rs = CutShort old new rs
Writes (Err faults.Memory) old new rs = Appends old new (replies_bytes rs) ⊎ LacksLast old new rs

-- A session, from one state of the pass, the source and the sink to another.
pub record Session (shape : Shape) (room : ℕ) (v w : View) (source_old source_new sink_old sink_new : Option (List ℕ))
    (result : Result Served SessionFault) : Type 0 where
  pub frames : List Frame
  pub replies : List Reply
  pub keeps : KeepsPass v w
  pub hears : Hears source_old source_new result frames
  pub answers : AnswersAll shape room v w frames replies
  pub written : Writes result sink_old sink_new replies
  pub ties : IsTied shape room v w frames replies
