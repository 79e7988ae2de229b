-- Events of the world, and counts of faults, by computation and by cases.
use Rattle.std.specs.Prelude.{◌≡◌, ℕ, [], ◌∷◌, map, true, false, None}
use Rattle.lg_base.specs.Causes.{one_more, Rose}
use Rattle.sketchlet_wire.specs.Uploads.{UploadData, upload_of}
use Rattle.upload_frame.specs.declared.reply.Reply.TheVariants as reply
use Rattle.uploader_core.specs.declared.state.SeqState.{SeqState}
use Rattle.uploader_core.specs.declared.state.SeqState.TheVariants.{Idle, Outstanding, Acknowledged}
use Rattle.uploader_core.specs.Uploader.{UploaderState}
use Rattle.upload_world.specs.declared.event.Event.TheVariants.{Send, Tick, Deliver, Back, Crash, CrashIn}
use Rattle.upload_world.specs.World.{WorldState, happens, after_events}
use Rattle.worked_examples.specs.Applying.{shape, col, entry}

-- Hosts 21 and 22 with an upload each, of one column, and these states.
abbrev pub up : (host : ℕ) → UploadData
up host = upload_of host 0 (col 3 5 ∷ [])

abbrev pub uploader : (host : ℕ) → SeqState → UploaderState
uploader host s = record { host = host; uploads = up host ∷ []; states = s ∷ [] }

abbrev pub world : (first second : SeqState) → WorldState
world a b = record {
  uploaders = uploader 21 a ∷ uploader 22 b ∷ [];
  frames = [];
  replies = [];
  shape = shape;
  room = 9;
  entries = [];
}

abbrev pub start : WorldState
start = world Idle Idle

pub record WorkedWorlds : Type 0 where
  -- sent, stored and acknowledged: its own host alone hears of it
  pub stored : after_events (Send 0 ∷ Deliver 0 ∷ Back 0 ∷ []) start ≡ record (world Acknowledged Idle) {
    frames = up 21 ∷ [];
    replies = reply.Acknowledged 21 0 false ∷ [];
    entries = entry 0 21 0 (col 3 5 ∷ []) ∷ [];
  }
  -- the same columns again, of another host: known, and no entry more
  pub known : after_events (Send 1 ∷ Send 0 ∷ Deliver 0 ∷ Deliver 1 ∷ Back 1 ∷ []) start
      ≡ record (world Acknowledged Outstanding) {
        frames = up 22 ∷ up 21 ∷ [];
        replies = reply.Acknowledged 22 0 false ∷ reply.Acknowledged 21 0 true ∷ [];
        entries = entry 0 22 0 (col 3 5 ∷ []) ∷ [];
      }
  -- given up by one host; what is on its way stays on its way
  pub given_up : after_events (Send 0 ∷ Send 1 ∷ Tick 0 ∷ []) start
      ≡ record (world Idle Outstanding) { frames = up 21 ∷ up 22 ∷ [] }
  -- a crash in the middle leaves the entry or not, and no reply
  pub crashed : map (λ kept. after_events (Send 0 ∷ CrashIn 0 kept ∷ []) start) (true ∷ false ∷ [])
      ≡ record (world Outstanding Idle) { frames = up 21 ∷ []; entries = entry 0 21 0 (col 3 5 ∷ []) ∷ [] }
      ∷ record (world Outstanding Idle) { frames = up 21 ∷ [] } ∷ []
  pub crash : after_events (Crash ∷ []) start ≡ start
  -- what cannot happen changes nothing
  pub nothing_there : map (happens start) (Send 2 ∷ Tick 2 ∷ Deliver 0 ∷ Back 0 ∷ CrashIn 0 true ∷ [])
      ≡ None ∷ None ∷ None ∷ None ∷ None ∷ []
  pub nothing_idle : happens (world Outstanding Idle) (Send 0) ≡ None
  -- a count of faults rose by one at least, or stands at its last value
  pub counts : map one_more (0 ∷ 18446744073709551614 ∷ 18446744073709551615 ∷ [])
      ≡ 1 ∷ 18446744073709551615 ∷ 18446744073709551615 ∷ []
  pub rose : Rose 4 5
  pub at_last : Rose 18446744073709551615 18446744073709551615
  pub not_risen : Rose 5 5 → ⊥
