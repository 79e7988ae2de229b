-- How the replies of a session are tied to the list that the pass has seen at its exit.
use Rattle.std.specs.Prelude.{◌≡◌, ◌≢◌, ℕ, ◌≤◌, ◌⊎◌, List, ◌++◌, ◌∷◌, [], length, take, slice_get, Some, Contains}
use mathlib.Core.List.{IsPrefix}
use Rattle.lg_model.specs.Placing.{Shape}
use Rattle.sketchlet_wire.specs.Uploads.{UploadData}
use Rattle.upload_frame.specs.declared.frame.Frame.{Frame}
use Rattle.upload_frame.specs.declared.frame.Frame.TheVariants.{Hello, Upload, Bye}
use Rattle.upload_frame.specs.declared.reply.Reply.{Reply}
use Rattle.upload_frame.specs.declared.reply.Reply.TheVariants.{Welcome, Refused, Goodbye}
use Rattle.upload_frame.specs.declared.reply.RefusedWhy.TheVariants as why
use Rattle.column_book.specs.declared.entry.Entry.{Entry}
use Rattle.column_book.specs.Applying.{after, decide}
use Rattle.column_book.specs.Entries.{records}
use Rattle.lock_rule.specs.declared.view.Mark.TheVariants.{Clear, Carries}
use Rattle.lock_rule.specs.declared.view.View.{View}
use Rattle.lock_rule.specs.Views.{Marked}
use Rattle.shared_book.specs.Replying.{refusal, reply_to}

-- The reply to a hello, by the shape that it asks for.
pub record IsGreeting (shape asked : Shape) (host : ℕ) (r : Reply) : Type 0 where
  pub same : asked ≡ shape → r ≡ Welcome host
  pub other : asked ≢ shape → r ≡ Refused host 0 why.Shape

-- The reply to a frame of a pass that has the mark: uploads are closed.
abbrev pub ClosedTo : Shape → Frame → Reply → Type 0
ClosedTo shape (Hello host asked) r = IsGreeting shape asked host r
ClosedTo shape (Upload u) r = r ≡ refusal u why.Closed
ClosedTo shape (Bye host) r = r ≡ Goodbye host

abbrev pub AllClosed : Shape → List Frame → List Reply → Type 0
AllClosed shape [] [] = Unit {0}
AllClosed shape [] (r ∷ rs) = ⊥
AllClosed shape (f ∷ fs) [] = ⊥
AllClosed shape (f ∷ fs) (r ∷ rs) = ClosedTo shape f r × AllClosed shape fs rs

-- An upload is answered as the book decides on a list that begins with the given one and begins the whole.
pub record IsDecided (shape : Shape) (room : ℕ) (low whole : List Entry) (u : UploadData) (r : Reply) : Type 0 where
  pub list : List Entry
  pub later : IsPrefix low list
  pub inside : IsPrefix list whole
  pub reply : r ≡ reply_to u (decide shape room (records list) u)

-- Each upload is decided on a beginning of what the pass has seen at the exit. It begins with the list that the last
-- upload left, with what was stored at its end; or the upload marked the pass, and it and all uploads after it are
-- closed. Where none was closed, the pass has no mark at the exit.
abbrev pub AreDecided : Shape → (room : ℕ) → (exit : View) → (low : List Entry) → List Frame → List Reply → Type 0
AreDecided shape room w low [] [] = IsPrefix low w.seen × (w.mark ≡ Clear)
AreDecided shape room w low [] (r ∷ rs) = ⊥
AreDecided shape room w low (f ∷ fs) [] = ⊥
AreDecided shape room w low (Hello host asked ∷ fs) (r ∷ rs) = IsGreeting shape asked host r × AreDecided shape room w low fs rs
AreDecided shape room w low (Bye host ∷ fs) (r ∷ rs) = (r ≡ Goodbye host) × AreDecided shape room w low fs rs
AreDecided shape room w low (Upload u ∷ fs) (r ∷ rs) =
    ((d : IsDecided shape room low w.seen u r) × AreDecided shape room w (after shape room d.list w.number u) fs rs)
    ⊎ ((r ≡ refusal u why.Closed) × IsPrefix low w.seen × Marked w.mark × AllClosed shape fs rs)

-- The entry is what an upload among the frames becomes on that list.
pub record IsStoredFor (shape : Shape) (room number : ℕ) (list : List Entry) (e : Entry) (fs : List Frame)
    : Type 0 where
  pub upload : UploadData
  pub among : Contains fs (Upload upload)
  pub stored : after shape room list number upload ≡ list ++ e ∷ []

-- How a session is tied to what its pass had seen and has seen: the replies to uploads, the entries of its number that
-- are new, and the entry that a mark set here carries.
pub record IsTied (shape : Shape) (room : ℕ) (v w : View) (fs : List Frame) (rs : List Reply) : Type 0 where
  pub decided : v.mark ≡ Clear → AreDecided shape room w v.seen fs rs
  pub closed : Marked v.mark → AllClosed shape fs rs
  pub own : (p : ℕ) (e : Entry) → length v.seen ≤ p → slice_get w.seen p ≡ Some e → e.pass ≡ v.number
      → IsStoredFor shape room v.number (take p w.seen) e fs
  pub marked : (e : Entry) → v.mark ≡ Clear → w.mark ≡ Carries e → IsStoredFor shape room v.number w.seen e fs
