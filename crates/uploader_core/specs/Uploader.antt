-- An uploader: a host's uploads, how far each is, and what a reply does.
use Rattle.std.specs.Prelude.{◌≡◌, ℕ, ◌<◌, ◌≤◌, ◌^◌, Bool, false, not, ◌&&◌, ◌==◌, nat_lt, List, length, slice_get, slice_set, Option, None, Some, if◌then◌else◌}
use Rattle.std.specs.List.{AllByRecursion, list_all}
use Rattle.lg_model.specs.declared.limits.TheConstants.{MOST_OUTSTANDING}
use Rattle.sketchlet_wire.specs.Uploads.{UploadData, IsFull}
use Rattle.upload_frame.specs.declared.reply.Reply.{Reply}
use Rattle.upload_frame.specs.declared.reply.Reply.TheVariants as reply
use Rattle.uploader_core.specs.declared.state.SeqState.{SeqState}
use Rattle.uploader_core.specs.declared.refused.Refused.{Refused}
use Rattle.uploader_core.specs.States.{is_acknowledged, state_at, outstanding, acknowledged, refused}

-- The host's name, its uploads by their numbers, and how far each is.
pub record UploaderState : Type 0 where
  pub host : ℕ
  pub uploads : List UploadData
  pub states : List SeqState

-- The uploads of a host by their numbers: each is of this host, and its position is its number.
pub record AreOwn (host : ℕ) (us : List UploadData) : Type 0 where
  pub few : length us < 2 ^ 32
  pub each : (seq : ℕ) (u : UploadData) → slice_get us seq ≡ Some u → (u.host ≡ host) × (u.seq ≡ seq)

-- What every uploader is: each upload has a state, and at most 8 are outstanding.
pub record IsUploader (u : UploaderState) : Type 0 where
  pub own : AreOwn u.host u.uploads
  pub full : AllByRecursion IsFull u.uploads
  pub paired : length u.states ≡ length u.uploads
  pub window : outstanding u.states ≤ MOST_OUTSTANDING

-- The states after a reply: an acknowledgement or a refusal of this host changes that of its upload, if the upload is there.
abbrev pub states_after : ℕ → List SeqState → Reply → List SeqState
states_after host ss (reply.Welcome h) = ss
states_after host ss (reply.Acknowledged h seq known) = if h == host then slice_set ss seq (acknowledged (state_at ss seq)) else ss
states_after host ss (reply.Refused h seq why) = if h == host then slice_set ss seq (refused (state_at ss seq)) else ss
states_after host ss (reply.Goodbye h) = ss

abbrev pub replied : UploaderState → Reply → UploaderState
replied u r = record u { states = states_after u.host u.states r }

-- Whether a refusal counts: it is of this host, and of an upload that is there and isn't acknowledged.
abbrev pub counts : UploaderState → (host seq : ℕ) → Bool
counts u host seq = host == u.host && (nat_lt seq (length u.states) && not (is_acknowledged (state_at u.states seq)))

-- What a reply refuses, if it is a refusal that counts.
abbrev pub refusal_in : UploaderState → Reply → Option Refused
refusal_in u (reply.Welcome h) = None
refusal_in u (reply.Acknowledged h seq known) = None
refusal_in u (reply.Refused h seq why) = if counts u h seq then Some (record { seq = seq; why = why }) else None
refusal_in u (reply.Goodbye h) = None

-- All uploads are acknowledged.
abbrev pub is_done : UploaderState → Bool
is_done u = list_all is_acknowledged u.states

-- No upload is.
abbrev pub NoneAcked : UploaderState → Type 0
NoneAcked u = (seq : ℕ) → is_acknowledged (state_at u.states seq) ≡ false
