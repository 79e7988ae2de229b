-- The world as a pure machine: uploaders, a net that loses, repeats and delays without end, and a book that outlives crashes.
use Rattle.std.specs.Prelude.{◌≡◌, ℕ, Bool, List, [], ◌∷◌, ◌++◌, map, slice_get, slice_set, slice_index_or, Option, Some, Result, is_some, unwrap_or, MatchResult, if◌then◌else◌}
use Rattle.std.specs.Option.{option_map, option_and_then}
use Rattle.lg_model.specs.Placing.{Shape}
use Rattle.lg_model.specs.Columns.{Column}
use Rattle.sketchlet_wire.specs.Uploads.{UploadData, upload_of}
use Rattle.upload_frame.specs.declared.reply.Reply.{Reply}
use Rattle.uploader_core.specs.States.{next_of, sent, ticked}
use Rattle.uploader_core.specs.Uploader.{UploaderState, replied}
use Rattle.column_book.specs.declared.entry.Entry.{Entry}
use Rattle.column_book.specs.declared.fault.BookFault.{BookFault}
use Rattle.column_book.specs.Entries.{records}
use Rattle.column_book.specs.Applying.{decide, after}
use Rattle.shared_book.specs.Replying.{reply_to}
use Rattle.upload_world.specs.declared.event.Event.{Event}
use Rattle.upload_world.specs.declared.event.Event.TheVariants.{Send, Tick, Deliver, Back, Crash, CrashIn}

-- The uploaders, every frame and every reply that was ever sent, and the book: its shape, its room and its entries. A frame
-- is told by its upload.
pub record WorldState : Type 0 where
  pub uploaders : List UploaderState
  pub frames : List UploadData
  pub replies : List Reply
  pub shape : Shape
  pub room : ℕ
  pub entries : List Entry

-- The upload of no columns, for a number that no upload has.
abbrev pub no_upload : UploadData
no_upload = upload_of 0 0 []

-- The uploader at a position sends its upload of that number.
abbrev pub send : WorldState → (at : ℕ) → UploaderState → (seq : ℕ) → WorldState
send w at u seq = record w {
  uploaders = slice_set w.uploaders at (record u { states = sent u.states seq });
  frames = w.frames ++ slice_index_or u.uploads seq no_upload ∷ [];
}

-- It gives up waiting.
abbrev pub tick : WorldState → (at : ℕ) → UploaderState → WorldState
tick w at u = record w { uploaders = slice_set w.uploaders at (record u { states = ticked u.states }) }

-- What the book decides of an upload, and the world after it was applied. Entries are added with the pass 0.
abbrev pub decision : WorldState → UploadData → Result (List Column) BookFault
decision w f = decide w.shape w.room (records w.entries) f

abbrev pub apply : WorldState → UploadData → WorldState
apply w f = record w { entries = after w.shape w.room w.entries 0 f }

-- A frame comes to the book, and the reply goes out.
abbrev pub deliver : WorldState → UploadData → WorldState
deliver w f = record (apply w f) { replies = w.replies ++ reply_to f (decision w f) ∷ [] }

-- A reply comes back. It changes the uploader of its host alone.
abbrev pub hand_back : WorldState → Reply → WorldState
hand_back w r = record w { uploaders = map (λ (u : UploaderState). replied u r) w.uploaders }

-- A frame comes, and the analyser crashes before it replies: after the frame was applied, or before.
abbrev pub crash_in : WorldState → (kept : Bool) → UploadData → WorldState
crash_in w kept f = if kept then apply w f else w

-- What an event makes of the world; none where it names an uploader, a frame or a reply that isn't there, or lets an uploader
-- send that has nothing to send. A crash leaves the book.
abbrev pub happens : WorldState → Event → Option WorldState
happens w (Send at) = option_and_then (λ (u : UploaderState). option_map (send w at u) (next_of u.states)) (slice_get w.uploaders at)
happens w (Tick at) = option_map (tick w at) (slice_get w.uploaders at)
happens w (Deliver frame) = option_map (deliver w) (slice_get w.frames frame)
happens w (Back reply) = option_map (hand_back w) (slice_get w.replies reply)
happens w Crash = Some w
happens w (CrashIn frame kept) = option_map (crash_in w kept) (slice_get w.frames frame)

-- The world after an event, and after a list of them.
abbrev pub after_event : WorldState → Event → WorldState
after_event w e = unwrap_or (happens w e) w

abbrev pub after_events : List Event → WorldState → WorldState
after_events [] w = w
after_events (e ∷ es) w = after_events es (after_event w e)

-- A step of the program did that: true where the event happened, false where it couldn't. At a fault all is as before.
abbrev pub Steps : {E : Type 0} → WorldState → Event → Result Bool E → WorldState → Type 0
Steps old e result new = MatchResult result (λ b. (b ≡ is_some (happens old e)) × (new ≡ after_event old e)) (λ _. new ≡ old)
