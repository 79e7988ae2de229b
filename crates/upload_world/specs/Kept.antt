-- What the steps of a world keep.
use Rattle.std.specs.Prelude.{◌≡◌, ℕ, ◌≢◌, ◌<◌, ◌^◌, ◌⊎◌, true, List, [], ◌∷◌, map, length, slice_get, Some}
use Rattle.std.specs.List.{AllByRecursion}
use Rattle.lg_model.specs.Answer.{Content}
use Rattle.sketchlet_wire.specs.Uploads.{UploadData, IsUpload, IsFull}
use Rattle.upload_frame.specs.declared.reply.Reply.{Reply}
use Rattle.upload_frame.specs.declared.reply.Reply.TheVariants as reply
use Rattle.uploader_core.specs.States.{is_acknowledged, state_at}
use Rattle.uploader_core.specs.Uploader.{UploaderState, AreOwn}
use Rattle.column_book.specs.Entries.{BookState, content}
use Rattle.upload_world.specs.World.{WorldState}
use Rattle.upload_world.specs.Law.{AreKept, KeysDiffer}

-- Each acknowledged upload of an uploader has all its columns in the content.
abbrev pub IsKeptFor : Content → UploaderState → Type 0
IsKeptFor m u = (seq : ℕ) (f : UploadData) → is_acknowledged (state_at u.states seq) ≡ true
    → slice_get u.uploads seq ≡ Some f → AreKept m f.columns

-- The hosts with their uploads, which no event changes.
abbrev pub Roster : Type 0
Roster = List (ℕ × List UploadData)

abbrev pub roster : List UploaderState → Roster
roster us = map (λ (u : UploaderState). (u.host, u.uploads)) us

abbrev pub RosterDiffers : Roster → Type 0
RosterDiffers [] = Unit {0}
RosterDiffers (r ∷ rs) = AllByRecursion (λ (s : ℕ × List UploadData). s.0 ≢ r.0) rs × RosterDiffers rs

-- A frame is the upload of its host and its number.
abbrev pub Owned : Roster → UploadData → Type 0
Owned [] f = ⊥
Owned (r ∷ rs) f = ((r.0 ≡ f.host) × (slice_get r.1 f.seq ≡ Some f)) ⊎ Owned rs f

pub record IsOwnFrame (rs : Roster) (f : UploadData) : Type 0 where
  pub owned : Owned rs f
  pub columns : IsUpload f.columns

-- An acknowledgement is of an upload whose columns are in the content.
abbrev pub BackedFor : Content → Reply → ℕ × List UploadData → Type 0
BackedFor m (reply.Welcome h) r = Unit {0}
BackedFor m (reply.Acknowledged h seq known) r = r.0 ≡ h → (f : UploadData) → slice_get r.1 seq ≡ Some f → AreKept m f.columns
BackedFor m (reply.Refused h seq why) r = Unit {0}
BackedFor m (reply.Goodbye h) r = Unit {0}

abbrev pub Backed : Roster → Content → Reply → Type 0
Backed rs m r = AllByRecursion (BackedFor m r) rs

-- Uploads of one host by their numbers, and a state for each.
pub record IsOwner (u : UploaderState) : Type 0 where
  pub own : AreOwn u.host u.uploads
  pub full : AllByRecursion IsFull u.uploads
  pub paired : length u.states ≡ length u.uploads

pub record IsSound (w : WorldState) : Type 0 where
  pub uploaders : AllByRecursion IsOwner w.uploaders
  pub hosts : RosterDiffers (roster w.uploaders)
  pub frames : AllByRecursion (IsOwnFrame (roster w.uploaders)) w.frames
  pub replies : AllByRecursion (Backed (roster w.uploaders) (content w.entries)) w.replies
  pub kept : AllByRecursion (IsKeptFor (content w.entries)) w.uploaders
  pub once : KeysDiffer w.entries

-- The world of these parts.
abbrev pub world_of : List UploaderState → List UploadData → List Reply → BookState → WorldState
world_of uploaders frames replies book =
    record { uploaders = uploaders; frames = frames; replies = replies; shape = book.shape; room = book.room; entries = book.entries }

-- What every world of the program is.
pub record IsWorld (w : WorldState) : Type 0 where
  pub sound : IsSound w
  pub few_frames : length w.frames < 2 ^ 32
  pub few_replies : length w.replies < 2 ^ 32
