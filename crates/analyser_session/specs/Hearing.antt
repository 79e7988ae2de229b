-- What a session hears: the frames of its input, up to where it stops.
use Rattle.std.specs.Prelude.{◌≡◌, ◌⊎◌, ℕ, ◌+◌, ◌<◌, ◌≤◌, List, [], length, Option, None, Some, Result, Ok, Err}
use Rattle.std.specs.Io.KnownBytes.{Consumes, IsAtEnd}
use mathlib.Core.List.{IsPrefix}
use Rattle.lg_model.specs.declared.limits.TheConstants.{MOST_FRAME_BYTES}
use Rattle.upload_frame.specs.declared.frame.Frame.{Frame}
use Rattle.upload_frame.specs.Front.{front_at}
use Rattle.upload_frame.specs.Frames.{frames}
use Rattle.upload_frame.specs.Machine.{Took}
use Rattle.analyser_session.specs.declared.fault.SessionFault.{SessionFault}
use Rattle.analyser_session.specs.declared.fault.SessionFault.TheVariants as faults
use Rattle.analyser_session.specs.declared.limits.TheConstants.{MOST_PIECE_BYTES, MOST_SESSION_FRAMES}
use Rattle.analyser_session.specs.declared.served.Served.{Served}
use Rattle.analyser_session.specs.Answered.{EndsWithBye, IsOpenEnded, NoBye}

-- The session may go on: no bye was answered, and fewer frames than a session has.
abbrev pub GoesOn : List Frame → Type 0
GoesOn fs = NoBye fs × (length fs < MOST_SESSION_FRAMES)

-- Why it stopped: by what the source has left, the number of bytes taken, the frames answered and the bytes after them.
abbrev pub Stops : Result Served SessionFault → (end : Option (List ℕ)) → (taken : ℕ) → List Frame → (rest : List ℕ)
    → Type 0
Stops (Ok s) end taken fs rest = EndsWithBye fs × (s.frames ≡ length fs)
Stops (Err (faults.Frame at fault)) end taken fs rest = GoesOn fs × (front_at frames rest ≡ Err fault) × (at + length rest ≡ taken)
Stops (Err (faults.Early at)) end taken fs rest = GoesOn fs × (front_at frames rest ≡ Ok None) × (at ≡ taken) × IsAtEnd end
Stops (Err faults.TooMany) end taken fs rest = NoBye fs × (length fs ≡ MOST_SESSION_FRAMES)
Stops (Err faults.ReadFault) end taken fs rest = GoesOn fs
Stops (Err faults.WriteFault) end taken fs rest = IsOpenEnded fs
Stops (Err faults.Memory) end taken fs rest = IsOpenEnded fs

-- An answer that the input alone decides: not the two faults of the outside, and not that memory ran out.
abbrev pub IsOfInput : Result Served SessionFault → Type 0
IsOfInput (Ok s) = Unit {0}
IsOfInput (Err (faults.Frame at fault)) = Unit {0}
IsOfInput (Err (faults.Early at)) = Unit {0}
IsOfInput (Err faults.TooMany) = Unit {0}
IsOfInput (Err faults.ReadFault) = ⊥
IsOfInput (Err faults.WriteFault) = ⊥
IsOfInput (Err faults.Memory) = ⊥

-- What an input comes to: it is these frames and a rest, by which a session over it ends so.
pub record ComesTo (input : List ℕ) (answer : Result Served SessionFault) (fs : List Frame) : Type 0 where
  pub rest : List ℕ
  pub took : Took frames input fs rest
  pub few : length fs ≤ MOST_SESSION_FRAMES
  pub stops : Stops answer (Some []) (length input) fs rest
  pub decided : IsOfInput answer

-- A session over an input answers the frames that it comes to, or the first ones of them, and its answer is what the
-- input comes to, unless the outside failed or memory ran out.
pub record HearsInput (input : List ℕ) (result : Result Served SessionFault) (fs : List Frame) : Type 0 where
  pub front : (answer : Result Served SessionFault) (gs : List Frame) → ComesTo input answer gs → IsPrefix fs gs
  pub exactly : (answer : Result Served SessionFault) (gs : List Frame) → ComesTo input answer gs → IsOfInput result
      → (fs ≡ gs) × (result ≡ answer)

-- The same, where the source tells its bytes.
abbrev pub HearsTold : Option (List ℕ) → Result Served SessionFault → List Frame → Type 0
HearsTold None result fs = Unit {0}
HearsTold (Some input) result fs = HearsInput input result fs

-- A session ends as its input comes to, or memory ran out.
abbrev pub EndsAsTold : Option (List ℕ) → Result Served SessionFault → Type 0
EndsAsTold None result = Unit {0}
EndsAsTold (Some input) result = (answer : Result Served SessionFault) (fs : List Frame) → ComesTo input answer fs
    → (result ≡ answer) ⊎ (result ≡ Err faults.Memory)

-- A session took these frames off the source, and what stands after them, or the outside, ended it. Of the bytes after
-- them it took no more than a piece and a frame have.
pub record Hears (source_old source_new : Option (List ℕ)) (result : Result Served SessionFault) (fs : List Frame)
    : Type 0 where
  pub taken : List ℕ
  pub rest : List ℕ
  pub consumed : Consumes source_old source_new taken
  pub took : Took frames taken fs rest
  pub near : length rest ≤ MOST_PIECE_BYTES + MOST_FRAME_BYTES + 1
  pub few : length fs ≤ MOST_SESSION_FRAMES
  pub stops : Stops result source_new (length taken) fs rest
  pub told : HearsTold source_old result fs

-- Every input comes to something, and to one thing alone.
pub record LawOfInputs : Type 0 where
  pub some : (input : List ℕ) → (answer : Result Served SessionFault) × (fs : List Frame) × ComesTo input answer fs
  pub one : (input : List ℕ) (a b : Result Served SessionFault) (fs gs : List Frame) → ComesTo input a fs
      → ComesTo input b gs → (fs ≡ gs) × (a ≡ b)
