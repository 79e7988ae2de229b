-- What the analyser answers to a frame over a pass.
use Rattle.std.specs.Prelude.{◌≡◌, ◌≢◌, ℕ, Option, None, Some, Result, Ok, Err}
use Rattle.lg_base.specs.declared.faults.Memory.{Memory}
use Rattle.lg_model.specs.Placing.{Shape}
use Rattle.sketchlet_wire.specs.Uploads.{UploadData}
use Rattle.upload_frame.specs.declared.frame.Frame.{Frame}
use Rattle.upload_frame.specs.declared.frame.Frame.TheVariants.{Hello, Upload, Bye}
use Rattle.upload_frame.specs.declared.reply.Reply.{Reply}
use Rattle.upload_frame.specs.declared.reply.Reply.TheVariants.{Welcome, Refused, Goodbye}
use Rattle.upload_frame.specs.declared.reply.RefusedWhy.TheVariants as why
use Rattle.book_journal.specs.declared.applied.Applied.{Applied}
use Rattle.book_journal.specs.declared.applied.ApplyFault.{ApplyFault}
use Rattle.lock_rule.specs.declared.view.View.{View}
use Rattle.shared_book.specs.Replying.{reply_for}
use Rattle.shared_book.specs.Passes.{Serves}

-- The reply, or that no memory was found.
abbrev pub replied : Option Reply → Result Reply Memory
replied (Some r) = Ok r
replied None = Err record {}

-- An upload is applied, and the answer is the reply to what came of it; where no memory was found there is none.
pub record AnswersUpload (shape : Shape) (room : ℕ) (u : UploadData) (v w : View) (answer : Result Reply Memory) : Type 0 where
  pub applied : Result Applied ApplyFault
  pub serves : Serves shape room u v w applied
  pub reply : answer ≡ replied (reply_for u applied)

-- A hello of the book's shape is welcomed, and one of another shape is refused. Neither a hello nor a bye changes the
-- pass.
abbrev pub IsAnswer : Shape → (room : ℕ) → Frame → (v w : View) → Result Reply Memory → Type 0
IsAnswer shape room (Hello host asked) v w answer =
    (w ≡ v) × (asked ≡ shape → answer ≡ Ok (Welcome host)) × (asked ≢ shape → answer ≡ Ok (Refused host 0 why.Shape))
IsAnswer shape room (Upload u) v w answer = AnswersUpload shape room u v w answer
IsAnswer shape room (Bye host) v w answer = (w ≡ v) × (answer ≡ Ok (Goodbye host))
