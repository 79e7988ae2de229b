-- What holds of the world, whatever happens.
use Rattle.std.specs.Prelude.{◌≡◌, ℕ, ◌≢◌, Bool, true, false, List, [], ◌++◌, map, slice_get, Option, Some, AllPairs}
use Rattle.std.specs.List.{AllByRecursion, IsDistinct}
use Rattle.std.specs.Option.{option_and_then, option_map_or}
use Rattle.lg_model.specs.Columns.{Column}
use Rattle.lg_model.specs.Answer.{Content, found}
use Rattle.sketchlet_wire.specs.Uploads.{UploadData, same_column_key}
use Rattle.uploader_core.specs.States.{is_acknowledged, state_at}
use Rattle.uploader_core.specs.Uploader.{UploaderState, IsUploader, NoneAcked}
use Rattle.column_book.specs.declared.entry.Entry.{Entry}
use Rattle.column_book.specs.Entries.{columns_of, content}
use Rattle.upload_world.specs.declared.event.Event.{Event}
use Rattle.upload_world.specs.World.{WorldState, after_event, after_events}

-- The upload of that number of the uploader at that position, if it is there.
abbrev pub upload_in : WorldState → (at seq : ℕ) → Option UploadData
upload_in w at seq = option_and_then (λ (u : UploaderState). slice_get u.uploads seq) (slice_get w.uploaders at)

-- Whether it is acknowledged.
abbrev pub is_acked : WorldState → (at seq : ℕ) → Bool
is_acked w at seq = option_map_or (λ (u : UploaderState). is_acknowledged (state_at u.states seq)) (slice_get w.uploaders at) false

-- Each column's key is in the content, with the column's buckets.
abbrev pub AreKept : Content → List Column → Type 0
AreKept m cs = AllByRecursion (λ (c : Column). found m c.key ≡ Some c.cells) cs

-- No key stands twice in the entries.
abbrev pub KeysDiffer : List Entry → Type 0
KeysDiffer es = IsDistinct same_column_key (map (λ (c : Column). c.key) (columns_of es))

-- No two uploaders are of one host.
abbrev pub HostsDiffer : List UploaderState → Type 0
HostsDiffer us = AllPairs (λ (u v : UploaderState). u.host ≢ v.host) us

-- A world at its start: hosts that differ, nothing acknowledged, nothing sent, and a book in which no key stands twice.
pub record IsStart (w : WorldState) : Type 0 where
  pub uploaders : AllByRecursion IsUploader w.uploaders
  pub hosts : HostsDiffer w.uploaders
  pub none : AllByRecursion NoneAcked w.uploaders
  pub frames : w.frames ≡ []
  pub replies : w.replies ≡ []
  pub once : KeysDiffer w.entries

-- After any list of events, crashes among them: an acknowledged upload of the start has all its columns in the book, with
-- equal buckets, and no key stands there twice. An event changes no upload, only adds to the end of the entries, and leaves
-- acknowledged what was acknowledged.
pub record LawOfTheWorld : Type 0 where
  pub kept : (w : WorldState) (es : List Event) (at seq : ℕ) (u : UploadData) → IsStart w →
      upload_in w at seq ≡ Some u → is_acked (after_events es w) at seq ≡ true → AreKept (content (after_events es w).entries) u.columns
  pub once : (w : WorldState) (es : List Event) → IsStart w → KeysDiffer (after_events es w).entries
  pub same : (w : WorldState) (e : Event) (at seq : ℕ) → upload_in (after_event w e) at seq ≡ upload_in w at seq
  pub grows : (w : WorldState) (e : Event) → (more : List Entry) × ((after_event w e).entries ≡ w.entries ++ more)
  pub stays : (w : WorldState) (e : Event) (at seq : ℕ) → is_acked w at seq ≡ true → is_acked (after_event w e) at seq ≡ true
