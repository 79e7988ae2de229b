-- Frames answered over a pass, one after the other.
use Rattle.std.specs.Prelude.{◌≡◌, ℕ, ◌+◌, ◌≤◌, ◌⊎◌, Bool, true, false, List, [], ◌∷◌, ◌++◌, Ok, Err}
use Rattle.std.specs.List.{AllByRecursion}
use mathlib.Core.List.{IsPrefix}
use Rattle.lg_base.specs.declared.faults.Memory.{Memory}
use Rattle.lg_model.specs.Placing.{Shape}
use Rattle.upload_frame.specs.declared.frame.Frame.{Frame}
use Rattle.upload_frame.specs.declared.frame.Frame.TheVariants.{Hello, Upload, Bye}
use Rattle.upload_frame.specs.declared.reply.Reply.{Reply}
use Rattle.lock_rule.specs.declared.view.View.{View}
use Rattle.shared_book.specs.Answering.{IsAnswer}
use Rattle.analyser_session.specs.declared.limits.TheConstants.{MOST_SESSION_FRAMES}

-- These frames were answered by these replies, each over the pass that the last answer left.
abbrev pub Answers : Shape → (room : ℕ) → View → List Frame → List Reply → View → Type 0
Answers shape room v [] [] w = w ≡ v
Answers shape room v [] (r ∷ rs) w = ⊥
Answers shape room v (f ∷ fs) [] w = ⊥
Answers shape room v (f ∷ fs) (r ∷ rs) w = (m : View) × IsAnswer shape room f v m (Ok r) × Answers shape room m fs rs w

-- What the last answer leaves, or one more upload after it for which no memory was found.
abbrev pub Rests : Shape → (room : ℕ) → (v w : View) → Type 0
Rests shape room v w = (w ≡ v) ⊎ ((f : Frame) × (e : Memory) × IsAnswer shape room f v w (Err e))

-- The frames that a session answers over a pass, their replies, and the pass at the exit.
pub record AnswersAll (shape : Shape) (room : ℕ) (v w : View) (fs : List Frame) (rs : List Reply) : Type 0 where
  pub last : View
  pub answers : Answers shape room v fs rs last
  pub rests : Rests shape room last w

abbrev pub is_bye : Frame → Bool
is_bye (Hello host shape) = false
is_bye (Upload u) = false
is_bye (Bye host) = true

abbrev pub NoBye : List Frame → Type 0
NoBye fs = AllByRecursion (λ (f : Frame). is_bye f ≡ false) fs

-- The last frame is the one bye.
abbrev pub EndsWithBye : List Frame → Type 0
EndsWithBye fs = (gs : List Frame) × (f : Frame) × (fs ≡ gs ++ f ∷ []) × NoBye gs × (is_bye f ≡ true)

-- No frame is a bye, but perhaps the last one.
abbrev pub IsOpenEnded : List Frame → Type 0
IsOpenEnded fs = NoBye fs ⊎ EndsWithBye fs

-- What a session keeps of a pass: its number, how many passes were made and which were joined. What it had seen begins
-- what it has seen, and it began as many calls more as a session has frames, or fewer.
pub record KeepsPass (v w : View) : Type 0 where
  pub number : w.number ≡ v.number
  pub made : w.made ≡ v.made
  pub joined : w.joined ≡ v.joined
  pub seen : IsPrefix v.seen w.seen
  pub begun : w.begun ≤ v.begun + MOST_SESSION_FRAMES
